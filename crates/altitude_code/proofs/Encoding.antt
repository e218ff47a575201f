-- From an altitude to its code: which altitudes are in a code, and that counting from −1200, as the code does, gives the same
-- code as counting from the code's lowest.
use mathlib.Core.Path.{◌≡◌, ap}
use mathlib.Core.Bool.{true, false}
use mathlib.Core.Logic.{◌⊎◌}
use Prim.Native.Nat.{ℕ, suc, ◌+◌, ◌*◌, ◌-◌, ◌/◌, ◌%◌, ◌^◌, ◌<◌}
use native.Mathlib.Omega.{arith}
use lib.IntN.{ℤ, pos, negsuc, nat_abs, sub_ℕ, ◌-ℤ◌}
use lib.Signed.{le_z}
use borrow.Author.Differences.{ints}
use mir.ValLaws.{to_z-of_z}
use Rattle.std.specs.Option.{option_map, option_and_then}
use Rattle.std.specs.Prelude.{None, Some}
use Rattle.altitude_code.specs.Altitudes.{feet_by_25, feet_by_100, code_by_25, code_by_100, lowest, highest, in_code, code_of, encoded_of}
use Rattle.altitude_code.specs.Counting.{above_lowest, is_at, steps_from}
use Rattle.altitude_code.proofs.Digits.{code_25_lt, placed-lt}

-- feet above −1200 count an altitude
pub above-feet : (a : ℕ) → above_lowest (pos a -ℤ pos 1200) ≡ Some a
unfolding above_lowest
above-feet a = grind (arith, ints)

-- ---- the altitudes of each code, and no others, are in it

pub in_code_lem : (z : ℤ) (s : ℕ) → (s ≡ 25) ⊎ (s ≡ 100) → nat_abs z % s ≡ 0 → le_z (lowest s) z ≡ true → le_z z (highest s) ≡ true → in_code z s ≡ true
unfolding in_code
in_code_lem z s o m l h = grind arith

pub record InCode (z : ℤ) (s : ℕ) : Type 0 where
  pub step : (s ≡ 25) ⊎ (s ≡ 100)
  pub multiple : nat_abs z % s ≡ 0
  pub from_lowest : le_z (lowest s) z ≡ true
  pub to_highest : le_z z (highest s) ≡ true

pub was_in_code : (z : ℤ) (s : ℕ) → in_code z s ≡ true → InCode z s
unfolding in_code
was_in_code z s e = record { step = grind arith; multiple = grind arith; from_lowest = grind arith; to_highest = grind arith }

-- ---- the two codes

pub in_25 : (n : ℕ) → n < 2 ^ 11 → (in_code (feet_by_25 n) 25 ≡ true) × (code_of (feet_by_25 n) 25 ≡ code_by_25 n)
unfolding feet_by_25 lowest highest code_of in_code
in_25 n h = (grind (arith, ints), ap code_by_25 (grind (arith, ints)))

pub of_25 : (z : ℤ) → InCode z 25 → (n : ℕ) × (n < 2 ^ 11) × (z ≡ feet_by_25 n)
unfolding feet_by_25 lowest highest
of_25 (pos m) c = ((m + 1000) / 25, grind (arith, ints), grind (arith, ints))
of_25 (negsuc m) c = ((1000 - suc m) / 25, grind (arith, ints), grind (arith, ints))

-- t steps of 100 above −1200 are the altitude of g = t / 5 and j = t % 5
pub feet_100 : (g j : ℕ) → feet_by_100 g j ≡ sub_ℕ (100 * (5 * g + j)) 1200
unfolding feet_by_100
feet_100 g j = grind (arith, ints)

pub in_100 : (t : ℕ) → t < 1280 → (in_code (sub_ℕ (100 * t) 1200) 100 ≡ true) × (code_of (sub_ℕ (100 * t) 1200) 100 ≡ code_by_100 t)
unfolding lowest highest code_of in_code
in_100 t h = (grind (arith, ints), ap code_by_100 (grind (arith, ints)))

pub of_100 : (z : ℤ) → InCode z 100 → (t : ℕ) × (t < 1280) × (z ≡ sub_ℕ (100 * t) 1200)
unfolding lowest highest
of_100 (pos m) c = ((m + 1200) / 100, grind (arith, ints), grind (arith, ints))
of_100 (negsuc m) c = ((1200 - suc m) / 100, grind (arith, ints), grind (arith, ints))

pub encoded_none : (z : ℤ) (s : ℕ) → (s ≡ 25 → ⊥) → (s ≡ 100 → ⊥) → None ≡ encoded_of z s
unfolding encoded_of in_code
encoded_none z s a b = grind arith

-- below −1200 is in neither code
pub encoded_below : (z : ℤ) (s : ℕ) → above_lowest z ≡ None → None ≡ encoded_of z s
unfolding above_lowest encoded_of in_code lowest
encoded_below z s h = grind (arith, ints)

-- what the code does, step by step
pub encoded_25 : (z : ℤ) → encoded_of z 25 ≡ option_map code_by_25 (option_and_then (steps_from 200 51375 25) (above_lowest z))
unfolding above_lowest encoded_of in_code lowest highest code_of steps_from is_at
encoded_25 (pos n) = grind (arith, ints)
encoded_25 (negsuc n) = grind (arith, ints)

pub encoded_100 : (z : ℤ) → encoded_of z 100 ≡ option_map code_by_100 (option_and_then (steps_from 0 127900 100) (above_lowest z))
unfolding above_lowest encoded_of in_code lowest highest code_of steps_from is_at
encoded_100 (pos n) = grind (arith, ints)
encoded_100 (negsuc n) = grind (arith, ints)

-- ---- the code is the one of an altitude that is in it

pub encoded_in : (z : ℤ) (s : ℕ) → in_code z s ≡ true → encoded_of z s ≡ Some (code_of z s)
unfolding encoded_of
encoded_in z s e = grind arith

pub was_encoded : (z : ℤ) (s k : ℕ) → encoded_of z s ≡ Some k → (in_code z s ≡ true) × (code_of z s ≡ k)
unfolding encoded_of
was_encoded z s k e = grind arith

pub out_of_code : (z : ℤ) (s : ℕ) → encoded_of z s ≡ None → in_code z s ≡ false
unfolding encoded_of
out_of_code z s e = grind arith

pub encoded_lt : (z : ℤ) (s k : ℕ) → encoded_of z s ≡ Some k → k < 2 ^ 13
unfolding encoded_of code_of code_by_100
encoded_lt z s k e = grind (arith, code_25_lt, placed-lt)

-- what `encode` needs
pub ruleset encoding = (encoded_below, encoded_none, encoded_25, encoded_100, to_z-of_z)
