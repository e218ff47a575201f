-- Numbers as capital hexadecimal digits and as decimal digits: the bytes 0 to 9 are 48 to 57, A to F 65 to 70. What digits
-- mean where they are read is in reading/specs/Digits.antt.
use Rattle.std.specs.Prelude.{ℕ, zero, suc, ◌+◌, ◌/◌, ◌%◌, List, [], ◌∷◌, ◌++◌, cond, ltb, ℤ, pos, negsuc}

-- the digit of a value below 16
unfoldable pub digit_of : ℕ → ℕ
digit_of v = cond (ltb v 10) (48 + v) (55 + v)

-- two digits for each byte
unfoldable pub hex_text : List ℕ → List ℕ
hex_text [] = []
hex_text (b ∷ bs) = digit_of (b / 16) ∷ digit_of (b % 16) ∷ hex_text bs

-- the six digits of a word of 24 bits
unfoldable pub word_text : ℕ → List ℕ
word_text w = hex_text (w / 65536 % 256 ∷ w / 256 % 256 ∷ w % 256 ∷ [])

-- the decimal digits of n without leading zeros; `bound` bounds their number
unfoldable pub decimal_within : ℕ → ℕ → List ℕ
decimal_within zero n = []
decimal_within (suc bound) n = cond (ltb n 10) (digit_of n ∷ []) (decimal_within bound (n / 10) ++ digit_of (n % 10) ∷ [])

-- n has at most n + 1 digits
unfoldable pub decimal_text : ℕ → List ℕ
decimal_text n = decimal_within (suc n) n

-- a signed number: `-`, the byte 45, in front of a negative one
unfoldable pub signed_text : ℤ → List ℕ
signed_text (pos n) = decimal_text n
signed_text (negsuc n) = 45 ∷ decimal_text (suc n)
