-- Appending to a buffer: one text after another, and what the buffer holds in the end.
use mathlib.Core.Path.{◌≡◌, refl, sym, ap, ap₂, ◌∙◌}
use mathlib.Core.Bool.{Bool, true, false, cond}
use mathlib.Core.List.{List, [], ◌∷◌, ◌++◌, append_assoc}
use Prim.Native.Nat.{ℕ, suc, ◌+◌, ◌-◌, ◌<◌, ◌≤◌}
use native.Mathlib.Numerals.{add-one}
use native.Mathlib.Nat.{add-zero}
use native.Mathlib.Omega.{arith}
use lib.ListN.{length, take, drop, set, length-set, length-append}
use lib.Seq.{sets, sets-eq, take_at}
use lib.Dec.{ltb}
use borrow.Author.Tests.{lt-ltb}
use borrow.Rule.Slice.PartMut.{put_mid, Post-is}
use Rattle.text.specs.declared.output.Output.{Output}
use Rattle.text.specs.Output.{Place, Appends, append_byte, append, place}
use Rattle.text.proofs.Parts.{picked}

pub append-none : (p : Place) → append p [] ≡ p
unfolding append
append-none p = refl

pub append-append : (p : Place) (s t : List ℕ) → append (append p s) t ≡ append p (s ++ t)
unfolding append
append-append p [] t = refl
append-append p (b ∷ s) t = append-append (append_byte p b) s t

pub ruleset appending = (append-append, append-none)

-- a buffer keeps its length, whatever is appended
byte-length : (p : Place) (b : ℕ) (t : Bool) → t ≡ ltb p.1 (length p.0) → length (append_byte p b).0 ≡ length p.0
unfolding append_byte
byte-length p b true e = ap (λ (x : Bool). length (cond x (set p.0 p.1 b, p.1 + 1) p).0) (sym e) ∙ length-set p.0 p.1 b
byte-length p b false e = ap (λ (x : Bool). length (cond x (set p.0 p.1 b, p.1 + 1) p).0) (sym e)

pub append_length : (p : Place) (s : List ℕ) → length (append p s).0 ≡ length p.0
unfolding append
append_length p [] = refl
append_length p (b ∷ s) = append_length (append_byte p b) s ∙ byte-length p b (ltb p.1 (length p.0)) refl

pub appends_length : (old new : Output) (s : List ℕ) → Appends old new s → length new.buffer.now ≡ length old.buffer.now
appends_length old new s h = ap (λ (p : Place). length p.0) h.appended ∙ append_length (place old) s

-- what is left to append when the first part of it has been appended
pub part_done : (p q : Place) (s t u : List ℕ) → q ≡ append p s → u ≡ s ++ t → append q t ≡ append p u
part_done p q s t u e f = ap (λ (x : Place). append x t) e ∙ append-append p s t ∙ sym (ap (append p) f)

-- a text that fits is stored byte by byte
append_sets : (s buf : List ℕ) (at : ℕ) → at + length s ≤ length buf → append (buf, at) s ≡ (sets buf at s, at + length s)
unfolding append append_byte
append_sets [] buf at h = ap (λ (n : ℕ). (buf, n)) (sym (add-zero at))
append_sets (b ∷ s) buf at h =
    let room : at < length buf = omega arith in
    let fits : (at + 1) + length s ≤ length (set buf at b) = omega (arith, length-set buf at b) in
    let counted : (at + 1) + length s ≡ at + suc (length s) = omega arith in
    ap (λ (p : Place). append p s) (picked (ltb at (length buf)) (set buf at b, at + 1) (buf, at) (lt-ltb at (length buf) room))
    ∙ append_sets s (set buf at b) (at + 1) fits
    ∙ ap₂ (λ (n m : ℕ). (sets (set buf at b) n s, m)) (add-one at) counted

-- a text that fits stands in the buffer, and the rest of the buffer is as it was
pub append-fits : (s buf : List ℕ) (at : ℕ) → at + length s ≤ length buf → append (buf, at) s ≡ (take at buf ++ s ++ drop (at + length s) buf, at + length s)
append-fits s buf at h = append_sets s buf at h ∙ ap (λ (l : List ℕ). (l, at + length s)) (sets-eq s buf at h)

-- a text that fits at the start of a buffer, and the part of the buffer that it takes
pub at_start : (s buf : List ℕ) → length s ≤ length buf
    → (append (buf, 0) s ≡ (s ++ drop (length s) buf, length s)) × (length s ≤ length (s ++ drop (length s) buf)) × (take (length s) (s ++ drop (length s) buf) ≡ s)
at_start s buf h =
    let end : 0 + length s ≡ length s = omega arith in (
      append-fits s buf 0 (omega arith) ∙ ap (λ (k : ℕ). (s ++ drop k buf, k)) end,
      omega (arith, length-append s (drop (length s) buf)),
      take_at s (drop (length s) buf) (length s) refl,
    )

-- a text that fits is appended by a copy to its place
pub copied : (buf ys s : List ℕ) (at : ℕ) → at + length s ≤ length buf → ys ≡ s → ◌≡◌ {A = Place} (put_mid at (at + length s - at) buf ys, at + length s) (append (buf, at) s)
copied buf ys s at h e =
    ap (λ (l : List ℕ). (l, at + length s))
    (ap (λ (l : List ℕ). take at buf ++ l) (ap₂ ◌++◌ e (Post-is at (at + length s) buf (omega arith))) ∙ sym (append_assoc (take at buf) s (drop (at + length s) buf)))
    ∙ sym (append-fits s buf at h)

pub taken-le : (s buf last : List ℕ) (n : ℕ) → length s ≤ length buf → (last, n) ≡ append (buf, 0) s → n ≤ length last
taken-le s buf last n h e =
    let f : ◌≡◌ {A = Place} (last, n) (s ++ drop (length s) buf, length s) = e ∙ (at_start s buf h).0 in
    omega (arith, ap (λ (p : Place). p.1) f, ap (λ (p : Place). length p.0) f, (at_start s buf h).1)
