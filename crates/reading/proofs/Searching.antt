-- The search for a byte, and the pieces that it parts.
use mathlib.Core.Path.{◌≡◌, refl, sym, ap, ◌∙◌}
use mathlib.Core.Bool.{Bool, true, false, cond, not}
use mathlib.Core.List.{List, [], ◌∷◌}
use Prim.Native.Nat.{ℕ, ◌+◌, ◌-◌, ◌<◌}
use native.Mathlib.Omega.{arith}
use lib.ListN.{length, take, drop, length-drop}
use lib.Dec.{eqb, ltb}
use lib.Seq.{take_all}
use borrow.Author.Tests.{ltb-true, ltb-false}
use Rattle.std.proofs.Common.{Some, None}
use Rattle.std.specs.List.{position, position_or_len}
use Rattle.reading.specs.Lines.{before, behind}
use Rattle.reading.proofs.Splitting.{before-take}

-- a search counts the bytes in front
pub position_or_len-before : (b : ℕ) (s : List ℕ) → position_or_len (λ x. eqb x b) s ≡ length (before b s)
unfolding before
position_or_len-before b [] = refl
position_or_len-before b (x ∷ s) = cases (eqb x b) (position_or_len-before b s)
  where
    cases : (t : Bool) → position_or_len (λ x. eqb x b) s ≡ length (before b s)
        → cond (not t) (1 + position_or_len (λ x. eqb x b) s) 0 ≡ length (cond t [] (x ∷ before b s))
    cases true e = refl
    cases false e = omega arith

-- and says whether it found one
pub position-found : (b : ℕ) (s : List ℕ) (k : ℕ) → position (λ x. eqb x b) s ≡ Some k → (k ≡ length (before b s)) × (k < length s)
position-found b s k e = cases (ltb (position_or_len (λ x. eqb x b) s) (length s)) refl e
  where
    n : ℕ
    n = position_or_len (λ x. eqb x b) s

    cases : (t : Bool) → ltb n (length s) ≡ t → cond t (Some n) None ≡ Some k → (k ≡ length (before b s)) × (k < length s)
    cases true f g =
        let same : n ≡ k = cc in
        (sym same ∙ position_or_len-before b s, omega (arith, ltb-true n (length s) f))
    cases false f g = cc

-- the piece in front of the place that a search found
pub take-before : (b : ℕ) (s : List ℕ) (k : ℕ) → k ≡ length (before b s) → take k s ≡ before b s
take-before b s k e = ap (λ (n : ℕ). take n s) e ∙ sym (before-take b s)

-- and what stands behind it
pub take-behind : (b : ℕ) (s : List ℕ) (k : ℕ) → k ≡ length (before b s) → take (length s - (k + 1)) (drop (k + 1) s) ≡ behind b s
take-behind b s k e =
    take_all (length s - (k + 1)) (drop (k + 1) s) (omega (arith, length-drop (k + 1) s)) ∙ ap (λ (n : ℕ). drop (n + 1) s) e

-- and where it found none
pub whole_before : (b : ℕ) (s : List ℕ) → position (λ x. eqb x b) s ≡ None → before b s ≡ s
whole_before b s e = cases (ltb (position_or_len (λ x. eqb x b) s) (length s)) refl e
  where
    n : ℕ
    n = position_or_len (λ x. eqb x b) s

    cases : (t : Bool) → ltb n (length s) ≡ t → cond t (Some n) None ≡ None → before b s ≡ s
    cases true f g = cc
    cases false f g = sym (take-before b s n (position_or_len-before b s)) ∙ take_all n s (ltb-false n (length s) f)

pub ruleset pieces = (position-found, take-before, take-behind, whole_before)
