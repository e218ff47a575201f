-- What the machine's answers say. The idea: a number built bit by bit has each bit where it was put; and each step keeps that no
-- number above the last is held.
use mathlib.Core.Path.{◌≡◌, refl, sym, ap, ap₂, ◌∙◌, subst}
use mathlib.Core.Bool.{Bool, true, false, cond, ◌&&◌}
use mathlib.Core.List.{List, [], ◌∷◌}
use mathlib.Core.Option.{Option}
use mathlib.Core.Option.Option.{none, some}
use Prim.Native.Nat.{ℕ, zero, suc, ◌+◌, ◌-◌, ◌*◌, ◌/◌, ◌%◌, ◌^◌, ◌<◌, ◌≤◌}
use native.Mathlib.Nat.{pow-suc, le_refl}
use native.Mathlib.Omega.{arith}
use lib.Dec.{eqb, leb}
use lib.Pow.{shr-shr}
use borrow.Author.Tests.{eqb-true, leb-true}
use Rattle.outcome.proofs.Laws.{never, both}
use Rattle.transponder.specs.Receptions.{reception_outcome}
use Rattle.uplink_elm.specs.Segments.{is_extended, reply_control, segment_number, segment, all_below}
use Rattle.uplink_elm.specs.Receiving.{one, is_own}
use Rattle.uplink_elm.proofs.Laws.{each_below, all-below}
use Rattle.uplink_elm_meaning.specs.Machine.{Machine, start, storing, opens, stores, does, is_some, holds, bits_below, acknowledgement, whole, step, resulting, machine_after}
use Rattle.uplink_elm_meaning.specs.Machine.Step.{refuses, becomes}
use Rattle.uplink_elm_meaning.specs.Running.{Call, machine_after_all, WholeWhenAllHeld, AcknowledgedWhenHeld, NoneAboveLast, StartsEmpty}

-- ---- whole

pub whole_when_all-held : WholeWhenAllHeld
unfolding WholeWhenAllHeld whole
whole_when_all-held s = (
  (λ e. let p = both s.opened (all_below (holds s) (suc s.last)) e in (p.0, λ n h. each_below (holds s) (suc s.last) p.1 n (omega arith))),
  λ h. ap₂ ◌&&◌ h.0 (all-below (holds s) (suc s.last) (λ n l. h.1 n (omega arith))),
)

-- ---- the acknowledgement

one-le : (t : Bool) → one t ≤ 1
one-le true = omega arith
one-le false = omega arith

bits-lt : (f : ℕ → Bool) (n : ℕ) → bits_below f n < 2 ^ n
unfolding bits_below
bits-lt f zero = omega arith
bits-lt f (suc n) = omega (arith, bits-lt f n, one-le (f n), pow-suc 2 n)

-- bit j of the bits for n numbers, where d numbers follow it
bits_at : (f : ℕ → Bool) (d n j : ℕ) → n ≡ suc j + d → bits_below f n / 2 ^ d % 2 ≡ one (f j)
unfolding bits_below
bits_at f zero zero j e = absurd (omega arith)
bits_at f zero (suc n) j e =
    let same : n ≡ j = omega arith in
    last_bit (bits_below f n) (one (f n)) (one-le (f n)) ∙ ap (λ (k : ℕ). one (f k)) same
  where
    last_bit : (b x : ℕ) → x ≤ 1 → (b * 2 + x) / 2 ^ 0 % 2 ≡ x
    last_bit b x h = omega arith
bits_at f (suc d) zero j e = absurd (omega arith)
bits_at f (suc d) (suc n) j e =
    let next : 1 + d ≡ suc d = omega arith in
    ap (λ (k : ℕ). (bits_below f n * 2 + one (f n)) / 2 ^ k % 2) (sym next)
    ∙ ap (λ (x : ℕ). x % 2) (sym (shr-shr (bits_below f n * 2 + one (f n)) 1 d))
    ∙ ap (λ (x : ℕ). x / 2 ^ d % 2) (half (bits_below f n) (one (f n)) (one-le (f n)))
    ∙ bits_at f d n j (omega arith)
  where
    half : (b x : ℕ) → x ≤ 1 → (b * 2 + x) / 2 ≡ b
    half b x h = omega arith

pub acknowledged_when_held : AcknowledgedWhenHeld
unfolding AcknowledgedWhenHeld acknowledgement
acknowledged_when_held s = (bits-lt (holds s) 16, λ j h. ((λ e. set (holds s j) (sym (at j h) ∙ e)), λ e. at j h ∙ ap one e))
  where
    at : (j : ℕ) → j < 16 → bits_below (holds s) 16 / 2 ^ (15 - j) % 2 ≡ one (holds s j)
    at j h = bits_at (holds s) (15 - j) 16 j (omega arith)

    set : (t : Bool) → one t ≡ 1 → t ≡ true
    set true e = refl
    set false e = absurd (omega arith)

pub starts_empty : StartsEmpty
unfolding StartsEmpty whole acknowledgement bits_below
starts_empty = ((λ e. never e refl), refl)

-- ---- no number above the last

Bounded : Machine → Type 0
Bounded s = (n : ℕ) → holds s n ≡ true → (s.opened ≡ true) × (n ≤ s.last)

module _ (s : Machine) (h : Bounded s) where
  stored-bounded : (n : ℕ) (b : List ℕ) (f : ℕ → Option (List ℕ)) (last : ℕ) → n ≤ last → ((k : ℕ) → is_some (f k) ≡ true → k ≤ last)
      → Bounded (record { opened = true; last = last; segments = storing n b f })
  unfolding Bounded
  stored-bounded n b f last l g k e = (refl, by (eqb k n) refl e)
    where
      by : (t : Bool) → eqb k n ≡ t → is_some (cond t (some b) (f k)) ≡ true → k ≤ last
      by true p q = subst (λ (x : ℕ). x ≤ last) (sym (eqb-true k n p)) l
      by false p q = g k q

  opening-bounded : (n : ℕ) (b : List ℕ) → Bounded (resulting (opens n b) s)
  opening-bounded n b = by (eqb n 0)
    where
      by : (t : Bool) → Bounded (resulting (cond t (refuses 10) (becomes (record { opened = true; last = n; segments = storing n b (λ k. none) }))) s)
      by true = h
      by false = stored-bounded n b (λ k. none) n (le_refl n) (λ k e. absurd (never e refl))

  storing-bounded : (n : ℕ) (b : List ℕ) → Bounded (resulting (stores n b s) s)
  unfolding Bounded
  storing-bounded n b = by s.opened (leb n s.last) refl
    where
      by : (a u : Bool) → leb n s.last ≡ u
          → Bounded (resulting (cond a (cond u (becomes (record { opened = true; last = s.last; segments = storing n b s.segments })) (refuses 11)) (refuses 10)) s)
      by true true e = stored-bounded n b s.segments s.last (leb-true n s.last e) (λ k q. (h k q).1)
      by true false e = h
      by false u e = h

  does-bounded : (c n : ℕ) (b : List ℕ) → Bounded (resulting (does c n b s) s)
  unfolding does
  does-bounded zero n b = opening-bounded n b
  does-bounded (suc zero) n b = storing-bounded n b
  does-bounded (suc (suc zero)) n b = storing-bounded n b
  does-bounded (suc (suc (suc c))) n b = h

  after-bounded : (own : ℕ) (m : List ℕ) → Bounded (machine_after own m s)
  unfolding machine_after step
  after-bounded own m = by (is_own (reception_outcome own m) && is_extended m)
    where
      by : (t : Bool) → Bounded (resulting (cond t (does (reply_control m) (segment_number m) (segment m) s) (becomes s)) s)
      by true = does-bounded (reply_control m) (segment_number m) (segment m)
      by false = h

all_bounded : (cs : List Call) (s : Machine) → Bounded s → Bounded (machine_after_all cs s)
unfolding machine_after_all
all_bounded [] s h = h
all_bounded (c ∷ cs) s h = all_bounded cs (machine_after c.own c.message s) (after-bounded s h c.own c.message)

pub none-above_last : NoneAboveLast
unfolding NoneAboveLast Bounded
none-above_last cs n e = all_bounded cs start (λ k q. absurd (never q refl)) n e
