-- A call that is refused, and one that is not: what it prints and what is held after it.
use mathlib.Core.Path.{◌≡◌, refl, ap, ap₂}
use mathlib.Core.Bool.{Bool, true, false, ◌||◌}
use mathlib.Core.List.{List, [], ◌++◌}
use Prim.Native.Nat.{ℕ, ◌^◌, ◌≤◌, ◌<◌}
use lib.ListN.{length, drop}
use lib.Dec.{leb, ltb}
use borrow.Author.Tests.{leb-false, ltb-false, lt-leb, le-ltb, le-leb, lt-ltb}
use Rattle.text.proofs.Laws.{picked, passed_over}
use Rattle.stream.specs.Stream.{Held, held_after, printed, printed_at_end, is_refused, feed_text, feed_held, finish_text}

module _ (h : Held) (piece : List ℕ) where
  pub refused_text : is_refused h.0 piece ≡ true → feed_text h piece ≡ []
  unfolding feed_text
  refused_text e = picked (is_refused h.0 piece) [] (printed h piece) e

  pub refused-held : is_refused h.0 piece ≡ true → feed_held h piece ≡ h
  unfolding feed_held
  refused-held e = picked (is_refused h.0 piece) h (held_after h piece) e

  pub fed-text : is_refused h.0 piece ≡ false → feed_text h piece ≡ printed h piece
  unfolding feed_text
  fed-text e = passed_over (is_refused h.0 piece) [] (printed h piece) e

  pub fed-held : is_refused h.0 piece ≡ false → feed_held h piece ≡ held_after h piece
  unfolding feed_held
  fed-held e = passed_over (is_refused h.0 piece) h (held_after h piece) e

module _ (h : Held) where
  pub refused_end : is_refused h.0 [] ≡ true → finish_text h ≡ []
  unfolding finish_text
  refused_end e = picked (is_refused h.0 []) [] (printed_at_end h) e

  pub fed-end : is_refused h.0 [] ≡ false → finish_text h ≡ printed_at_end h
  unfolding finish_text
  fed-end e = passed_over (is_refused h.0 []) [] (printed_at_end h) e

-- ---- when

neither : (a b : Bool) → (a || b) ≡ false → (a ≡ false) × (b ≡ false)
neither true true e = (e, e)
neither true false e = (e, refl)
neither false b e = (refl, e)

pub not-refused : (ended : ℕ) (piece : List ℕ) → is_refused ended piece ≡ false → (ended < 2 ^ 63) × (length piece ≤ 4096)
unfolding is_refused
not-refused ended piece e =
    let both = neither (leb (2 ^ 63) ended) (ltb 4096 (length piece)) e in
    (leb-false (2 ^ 63) ended both.0, ltb-false 4096 (length piece) both.1)

pub is_not-refused : (ended : ℕ) (piece : List ℕ) → ended < 2 ^ 63 → length piece ≤ 4096 → is_refused ended piece ≡ false
unfolding is_refused
is_not-refused ended piece h k =
    ap₂ ◌||◌ (lt-leb (2 ^ 63) ended h) (le-ltb 4096 (length piece) k)

-- ---- for the tactics

pub refused_lines : (ended : ℕ) (piece : List ℕ) → 2 ^ 63 ≤ ended → is_refused ended piece ≡ true
unfolding is_refused
refused_lines ended piece h = ap (λ (t : Bool). t || ltb 4096 (length piece)) (le-leb (2 ^ 63) ended h)

pub refused_piece : (ended : ℕ) (piece : List ℕ) → ended < 2 ^ 63 → 4096 < length piece → is_refused ended piece ≡ true
unfolding is_refused
refused_piece ended piece h k = ap₂ ◌||◌ (lt-leb (2 ^ 63) ended h) (lt-ltb 4096 (length piece) k)

pub ruleset admitting = (refused_lines, refused_piece, is_not-refused)

-- a call that appends nothing leaves the buffer as it was
pub left_alone : (t out : List ℕ) → t ≡ [] → t ++ drop (length t) out ≡ out
left_alone t out e = ap (λ (x : List ℕ). x ++ drop (length x) out) e

pub passed : (ended : ℕ) (piece : List ℕ) → is_refused ended piece ≡ false → (is_refused ended piece ≡ false) × (ended < 2 ^ 63) × (length piece ≤ 4096)
passed ended piece e =
    let small = not-refused ended piece e in
    (e, small.0, small.1)

pub ruleset refusing = (refused_text, refused-held, fed-text, fed-held, refused_end, fed-end, left_alone, passed)
