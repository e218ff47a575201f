-- The test whether two texts are the same holds exactly where they are equal, so a function that answers one answers the
-- other.
use mathlib.Core.Path.{◌≡◌, refl, ap, ap₂}
use mathlib.Core.Bool.{Bool, true, ◌&&◌, and-eq-true_iff}
use mathlib.Core.List.{List, [], ◌∷◌}
use Prim.Native.Nat.{ℕ}
use lib.Dec.{eqb}
use borrow.Author.Tests.{eqb-true, eq-eqb}
use Rattle.std.specs.Cmp.Lexicographic.{pointwise}
use Rattle.outcome.proofs.Laws.{never}
use Rattle.shift_report.specs.Tally.{same_text}

pub same_itself : (a : List ℕ) → same_text a a ≡ true
unfolding same_text
same_itself [] = refl
same_itself (x ∷ a) = ap₂ ◌&&◌ (eq-eqb x x refl) (same_itself a)

pub same_equal : (a b : List ℕ) → same_text a b ≡ true → a ≡ b
unfolding same_text
same_equal [] [] e = refl
same_equal [] (y ∷ b) e = absurd (never e refl)
same_equal (x ∷ a) [] e = absurd (never e refl)
same_equal (x ∷ a) (y ∷ b) e =
    let both = (and-eq-true_iff (eqb x y) (same_text a b)).0 e in
    ap₂ ◌∷◌ (eqb-true x y both.0) (same_equal a b both.1)

-- `==` of two slices is that test
pub pointwise-same : (a b : List ℕ) → pointwise eqb a b ≡ same_text a b
unfolding same_text
pointwise-same [] [] = refl
pointwise-same [] (y ∷ b) = refl
pointwise-same (x ∷ a) [] = refl
pointwise-same (x ∷ a) (y ∷ b) = ap (λ (t : Bool). eqb x y && t) (pointwise-same a b)
