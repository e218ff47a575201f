-- What document 02, Point 1 says of a code, case by case. The definitions of altitude_code, which compute, are shown to
-- say this and nothing else (proofs/Meanings.antt).
use Rattle.std.specs.Prelude.{ℕ, zero, suc, ◌+◌, ◌*◌, ◌<◌, ◌≡◌, ◌⊎◌, Bool, true, false, cond, ◌&&◌, eqb, ℤ}
use Rattle.altitude_code.specs.Gray.{gray}
use Rattle.altitude_code.specs.Codes.{M, Q, eleven_bits, gray_bits, c_bits, c_pattern}
use Rattle.altitude_code.specs.Altitudes.{feet_by_25, feet_by_100, decoded_of}
use Rattle.altitude_code.specs.declared.Decoded.{Decoded}
use Rattle.altitude_code.specs.declared.Decoded.TheVariants.{Feet, NoAltitude, Metric, Illegal}

-- The rule of the 100-foot code: k is the pattern of the altitude 500·g − 1000 plus the j-th of −200, −100, 0, 100, 200.
pub record Hundred (k g j : ℕ) : Type 0 where
  pub eight : g < 256
  pub five : j < 5
  pub no_metric : M k ≡ 0
  pub no_step_25 : Q k ≡ 0
  pub gray_code : gray_bits k ≡ gray 8 g
  pub c_pattern : c_bits k ≡ c_pattern g j

-- 'With M = 0 and Q = 1 the other eleven bits are a number N, in order, and the altitude is 25·N − 1000 feet.'
unfoldable pub By25 : ℕ → ℤ → Type 0
By25 k z = (M k ≡ 0) × (Q k ≡ 1) × (z ≡ feet_by_25 (eleven_bits k))

-- 'With M = 0 and Q = 0 it is the 100-foot code'
unfoldable pub By100 : ℕ → ℤ → Type 0
By100 k z = (g : ℕ) × (j : ℕ) × Hundred k g j × (z ≡ feet_by_100 g j)

-- 'All zeros means no altitude. M = 1 means metric and is answered as that, undecoded. … an illegal pattern is answered as
-- illegal.'
unfoldable pub Means : ℕ → Decoded → Type 0
Means k NoAltitude = k ≡ 0
Means k Metric = M k ≡ 1
Means k (Feet z) = By25 k z ⊎ By100 k z
Means k Illegal = (k ≡ 0 → ⊥) × (M k ≡ 0) × (Q k ≡ 0) × ((g j : ℕ) → Hundred k g j → ⊥)

-- The code of an altitude is the one of the step, 25 or 100, that means it.
unfoldable pub Encodes : ℤ → ℕ → ℕ → Type 0
Encodes z s k = ((s ≡ 25) × By25 k z) ⊎ ((s ≡ 100) × By100 k z)

-- How many numbers of w bits pass a test.
unfoldable pub how_many : ℕ → (ℕ → Bool) → ℕ
how_many zero f = cond (f 0) 1 0
how_many (suc w) f = how_many w (λ h. f (h * 2)) + how_many w (λ h. f (h * 2 + 1))

-- Whether a code means an altitude in steps of 25, in steps of 100, or is illegal.
abbrev pub is_feet : Decoded → Bool
is_feet (Feet z) = true
is_feet NoAltitude = false
is_feet Metric = false
is_feet Illegal = false

abbrev pub is_illegal : Decoded → Bool
is_illegal (Feet z) = false
is_illegal NoAltitude = false
is_illegal Metric = false
is_illegal Illegal = true

abbrev pub in_steps_of_25 : ℕ → Bool
in_steps_of_25 k = eqb (Q k) 1 && is_feet (decoded_of k)

abbrev pub in_steps_of_100 : ℕ → Bool
in_steps_of_100 k = eqb (Q k) 0 && is_feet (decoded_of k)
