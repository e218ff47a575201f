-- Which altitude a code means, and which code means an altitude (document 02, Point 1; Annex 10 Volume IV).
use Rattle.std.specs.Prelude.{ℕ, suc, ◌*◌, ◌/◌, ◌%◌, ◌^◌, Bool, cond, ◌&&◌, ◌||◌, List, [], ◌∷◌, eqb, ltb, Option, None, Some, ℤ, pos, negsuc, nat_abs, ◌+ℤ◌, ◌-ℤ◌}
use Rattle.std.specs.Int.Signed.{le_z}
use Rattle.altitude_code.specs.Gray.{gray, gray_number}
use Rattle.altitude_code.specs.Codes.{binary, digit, M, Q, eleven_bits, gray_bits, c_bits, c_patterns, c_pattern, in_order}
use Rattle.altitude_code.specs.declared.Decoded.{Decoded}
use Rattle.altitude_code.specs.declared.Decoded.TheVariants.{Feet, NoAltitude, Metric, Illegal}

-- ---- from the code to the altitude

-- 'the altitude is 25·N − 1000 feet'
unfoldable pub feet_by_25 : ℕ → ℤ
feet_by_25 n = pos (25 * n) -ℤ pos 1000

-- 'the altitude is 500·g − 1000 plus −200, −100, 0, 100, 200', by j from 0 to 4
unfoldable pub feet_by_100 : ℕ → ℕ → ℤ
feet_by_100 g j = (pos (500 * g) -ℤ pos 1000) +ℤ (pos (100 * j) -ℤ pos 200)

-- The place of a number in a list, or the list's length where it is not there.
unfoldable pub place_in : ℕ → List ℕ → ℕ
place_in x [] = 0
place_in x (y ∷ ys) = cond (eqb x y) 0 (suc (place_in x ys))

-- A pattern with M = 0 and Q = 0, by the number g of its Gray code and the place of its C1 C2 C4 in the list of five.
unfoldable pub decoded_by_100 : ℕ → ℕ → Decoded
decoded_by_100 g i = cond (ltb i 5) (Feet (feet_by_100 g (in_order g i))) Illegal

-- What a code means; of a number above 13 bits, its low 13. 'All zeros means no altitude. M = 1 means metric and is answered
-- as that, undecoded.'
unfoldable pub decoded_of : ℕ → Decoded
decoded_of k =
    cond (eqb (k % 2 ^ 13) 0) NoAltitude
    (cond (eqb (M k) 1) Metric
    (cond (eqb (Q k) 1) (Feet (feet_by_25 (eleven_bits k)))
    (decoded_by_100 (gray_number 8 (gray_bits k)) (place_in (c_bits k) c_patterns))))

-- ---- from the altitude to the code

-- The pattern with M = 0 and Q = 1 and these eleven bits.
unfoldable pub code_by_25 : ℕ → ℕ
code_by_25 n =
    binary
    (digit n 10 ∷ digit n 9 ∷ digit n 8 ∷ digit n 7 ∷ digit n 6 ∷ digit n 5 ∷ 0
    ∷ digit n 4 ∷ 1 ∷ digit n 3 ∷ digit n 2 ∷ digit n 1 ∷ digit n 0 ∷ [])

-- The pattern with M = 0 and Q = 0 and these bits: v is D2 D4 A1 A2 A4 B1 B2 B4, c is C1 C2 C4.
unfoldable pub placed : ℕ → ℕ → ℕ
placed v c =
    binary
    (digit c 2 ∷ digit v 5 ∷ digit c 1 ∷ digit v 4 ∷ digit c 0 ∷ digit v 3 ∷ 0
    ∷ digit v 2 ∷ 0 ∷ digit v 1 ∷ digit v 7 ∷ digit v 0 ∷ digit v 6 ∷ [])

-- The pattern of the altitude that is t steps of 100 feet above the lowest, −1200: five to each g.
unfoldable pub code_by_100 : ℕ → ℕ
code_by_100 t = placed (gray 8 (t / 5)) (c_pattern (t / 5) (t % 5))

-- The ranges: 2048 altitudes from −1000 in steps of 25, and 'the 100-foot code …, 1280 values from −1200 to 126700'.
unfoldable pub lowest : ℕ → ℤ
lowest s = cond (eqb s 25) (negsuc 999) (negsuc 1199)

unfoldable pub highest : ℕ → ℤ
highest s = cond (eqb s 25) (pos 50175) (pos 126700)

-- Whether the code of the step has the altitude: 'the step is neither 25 nor 100, or the altitude is off it or out of that
-- code's range' is row 7 of the refusals.
unfoldable pub in_code : ℤ → ℕ → Bool
in_code z s = (eqb s 25 || eqb s 100) && (eqb (nat_abs z % s) 0 && (le_z (lowest s) z && le_z z (highest s)))

-- The code of an altitude, counted in steps from the lowest.
unfoldable pub code_of : ℤ → ℕ → ℕ
code_of z s = cond (eqb s 25) (code_by_25 (nat_abs (z +ℤ pos 1000) / 25)) (code_by_100 (nat_abs (z +ℤ pos 1200) / 100))

unfoldable pub encoded_of : ℤ → ℕ → Option ℕ
encoded_of z s = cond (in_code z s) (Some (code_of z s)) None
