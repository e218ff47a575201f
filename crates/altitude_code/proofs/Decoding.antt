-- From a code to its altitude: how the definition splits by its tests.
use mathlib.Core.Path.{◌≡◌}
use Prim.Native.Nat.{ℕ, ◌+◌, ◌*◌, ◌%◌, ◌^◌, ◌<◌, ◌≤◌}
use native.Mathlib.Omega.{arith}
use lib.IntN.{ℤ, pos, ◌-ℤ◌}
use borrow.Author.Differences.{ints}
use mir.Syntax.{w32}
use mir.Val.{to_z, of_z}
use Rattle.altitude_code.specs.Gray.{gray_number}
use Rattle.altitude_code.specs.Codes.{M, Q, eleven_bits, gray_bits, c_bits, c_patterns, in_order}
use Rattle.altitude_code.specs.Altitudes.{feet_by_25, feet_by_100, place_in, decoded_by_100, decoded_of}
use Rattle.altitude_code.specs.declared.Decoded.TheVariants.{Feet, NoAltitude, Metric, Illegal}

-- ---- a pattern of the 100-foot code

pub illegal : (g i : ℕ) → 5 ≤ i → Illegal ≡ decoded_by_100 g i
unfolding decoded_by_100
illegal g i h = grind arith

pub legal : (g i : ℕ) → i < 5 → Feet (feet_by_100 g (in_order g i)) ≡ decoded_by_100 g i
unfolding decoded_by_100
legal g i h = grind arith

-- the altitude as the machine holds it
pub feet_of : (z : ℤ) (g j : ℕ) → g < 256 → j < 5 → z ≡ pos (500 * g + 100 * j) -ℤ pos 1200 → to_z w32 (of_z w32 z) ≡ feet_by_100 g j
unfolding feet_by_100
feet_of z g j hg hj e = omega (arith, ints)

pub feet_of_25 : (z : ℤ) (n : ℕ) → n < 2048 → z ≡ pos (25 * n + 200) -ℤ pos 1200 → to_z w32 (of_z w32 z) ≡ feet_by_25 n
unfolding feet_by_25
feet_of_25 z n h e = omega (arith, ints)

-- ---- any code

module _ (k : ℕ) where
  pub decoded-none : k % 2 ^ 13 ≡ 0 → NoAltitude ≡ decoded_of k
  unfolding decoded_of
  decoded-none e = grind arith

  pub decoded-metric : (k % 2 ^ 13 ≡ 0 → ⊥) → M k ≡ 1 → Metric ≡ decoded_of k
  unfolding decoded_of
  decoded-metric n e = grind arith

  pub decoded-25 : (k % 2 ^ 13 ≡ 0 → ⊥) → (M k ≡ 1 → ⊥) → Q k ≡ 1 → Feet (feet_by_25 (eleven_bits k)) ≡ decoded_of k
  unfolding decoded_of
  decoded-25 n m e = grind arith

  pub decoded-100 : (k % 2 ^ 13 ≡ 0 → ⊥) → (M k ≡ 1 → ⊥) → (Q k ≡ 1 → ⊥) → decoded_by_100 (gray_number 8 (gray_bits k)) (place_in (c_bits k) c_patterns) ≡ decoded_of k
  unfolding decoded_of
  decoded-100 n m e = grind arith

-- what the decoders need for an altitude in feet
pub ruleset decoding = (feet_of, feet_of_25, decoded-25, legal)
