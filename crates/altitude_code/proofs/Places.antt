-- The places of C1 C2 C4 in the list of five patterns, in either order.
use mathlib.Core.Path.{◌≡◌, refl, sym, ap, ◌∙◌}
use mathlib.Core.Bool.{not, ◌||◌}
use Prim.Native.Nat.{ℕ, zero, suc, ◌^◌, ◌<◌}
use native.Mathlib.Omega.{arith}
use lib.Dec.{eqb, ltb}
use lib.ListN.{get_or}
use borrow.Author.Tests.{eqb-true, lt-ltb}
use Rattle.outcome.proofs.Laws.{every, tested, when}
use Rattle.altitude_code.specs.Codes.{c_patterns, in_order, c_pattern}
use Rattle.altitude_code.specs.Altitudes.{place_in}

-- what stands at the place of c is c
at_place : (c : ℕ) → c < 2 ^ 3 → place_in c c_patterns < 5 → get_or c_patterns (place_in c c_patterns) 0 ≡ c
unfolding every place_in
at_place c h p =
    eqb-true _ _
    (when (ltb (place_in c c_patterns) 5) (eqb (get_or c_patterns (place_in c c_patterns) 0) c)
    (tested 3 (λ c. not (ltb (place_in c c_patterns) 5) || eqb (get_or c_patterns (place_in c c_patterns) 0) c) refl c h)
    (lt-ltb _ _ p))

-- and the place of what stands at a place is that place
place_at_lem : (i : ℕ) → i < 5 → place_in (get_or c_patterns i 0) c_patterns ≡ i
unfolding place_in
place_at_lem zero h = refl
place_at_lem (suc zero) h = refl
place_at_lem (suc (suc zero)) h = refl
place_at_lem (suc (suc (suc zero))) h = refl
place_at_lem (suc (suc (suc (suc zero)))) h = refl
place_at_lem (suc (suc (suc (suc (suc i))))) h = absurd (omega arith)

pub in_order_lt : (g i : ℕ) → i < 5 → in_order g i < 5
unfolding in_order
in_order_lt g i h = grind arith

pub in_order_twice : (g i : ℕ) → i < 5 → in_order g (in_order g i) ≡ i
unfolding in_order
in_order_twice g i h = grind arith

-- C1 C2 C4 of the j-th altitude of g has its place in the list, and no other pattern has one
pub pattern-place : (g j : ℕ) → j < 5 → place_in (c_pattern g j) c_patterns ≡ in_order g j
unfolding c_pattern
pattern-place g j h = place_at_lem (in_order g j) (in_order_lt g j h)

pub place-pattern : (g c : ℕ) → c < 2 ^ 3 → place_in c c_patterns < 5 → c ≡ c_pattern g (in_order g (place_in c c_patterns))
unfolding c_pattern
place-pattern g c h p =
    sym (ap (λ (i : ℕ). get_or c_patterns i 0) (in_order_twice g (place_in c c_patterns) p) ∙ at_place c h p)
