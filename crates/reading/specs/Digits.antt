-- Capital hexadecimal digits and decimal digits, and what they mean: the bytes 0 to 9 are 48 to 57, A to F 65 to 70.
use Rattle.std.specs.Prelude.{ℕ, ◌+◌, ◌-◌, ◌*◌, List, [], ◌∷◌, Bool, true, cond, ◌&&◌, ◌||◌, leb}

-- ---- digits

unfoldable pub is_decimal_digit : ℕ → Bool
is_decimal_digit b = leb 48 b && leb b 57

unfoldable pub is_hex_digit : ℕ → Bool
is_hex_digit b = is_decimal_digit b || (leb 65 b && leb b 70)

-- the value of a digit, and 0 for a byte that is none
unfoldable pub digit_value : ℕ → ℕ
digit_value b = cond (is_decimal_digit b) (b - 48) (cond (is_hex_digit b) (b - 55) 0)

-- ---- texts of digits

-- every byte passes a test
unfoldable pub all : (ℕ → Bool) → List ℕ → Bool
all test [] = true
all test (b ∷ bs) = test b && all test bs

-- the number that the digits write in a base, after the number v
unfoldable pub number_after : ℕ → ℕ → List ℕ → ℕ
number_after base v [] = v
number_after base v (d ∷ ds) = number_after base (v * base + digit_value d) ds

unfoldable pub hex_number : List ℕ → ℕ
hex_number ds = number_after 16 0 ds

unfoldable pub decimal_number : List ℕ → ℕ
decimal_number ds = number_after 10 0 ds

-- the bytes that pairs of digits write; a last digit without a partner writes none
unfoldable pub hex_bytes : List ℕ → List ℕ
hex_bytes [] = []
hex_bytes (a ∷ []) = []
hex_bytes (a ∷ b ∷ ds) = (digit_value a * 16 + digit_value b) ∷ hex_bytes ds
