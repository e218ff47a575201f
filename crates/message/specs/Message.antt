-- Messages as polynomials, and the parts of a message (document 01, 'Messages and division').
use Rattle.std.specs.Prelude.{ℕ, ◌+◌, ◌*◌, ◌-◌, ◌/◌, ◌^◌, ◌<◌, List, [], ◌∷◌, Bool, true, false, ◌||◌, length, get_or, take, drop, eqb, leb}

-- The polynomial of a byte list of n bits: bit 1, the top bit of the first byte, stands for x^(n−1), bit i for x^(n−i)
-- (ATC-117, 2.1: 'by convention, the first transmitted message bit is considered to be the highest order coefficient of the
-- message polynomial').
unfoldable pub number : List ℕ → ℕ
number [] = 0
number (b ∷ bs) = b * 2 ^ (8 * length bs) + number bs

-- The entries are bytes.
abbrev pub Bytes : List ℕ → Type 0
Bytes bs = (i : ℕ) → get_or bs i 0 < 2 ^ 8

-- The last 24 bits of a message are the parity field (Annex 10 Volume IV: AP), the bytes before it the field M.
unfoldable pub field : List ℕ → List ℕ
field m = take (length m - 3) m

unfoldable pub parity_field : List ℕ → List ℕ
parity_field m = drop (length m - 3) m

-- The format number is bits 1 to 5 as a binary number (Annex 10 Volume IV: UF and DF).
unfoldable pub format_number : List ℕ → ℕ
format_number m = get_or m 0 0 / 2 ^ 3

unfoldable pub first_bit : List ℕ → ℕ
first_bit m = get_or m 0 0 / 2 ^ 7

abbrev pub bit_of : Bool → ℕ
bit_of true = 1
bit_of false = 0

-- A first bit 0 belongs to 56 bits and 1 to 112 (document 01; row 5 of the refusals).
unfoldable pub first_bit_agrees : List ℕ → Bool
first_bit_agrees m = eqb (first_bit m) (bit_of (eqb (length m) 14))

-- A message has 56 or 112 bits, so 7 or 14 bytes, and its field 4 or 11 (document 01; ATC-117, 2.2).
unfoldable pub is_message_length : ℕ → Bool
is_message_length n = eqb n 7 || eqb n 14

unfoldable pub is_field_length : ℕ → Bool
is_field_length n = eqb n 4 || eqb n 11

-- A word, an address or a register has 24 bits (row 3 of the refusals).
unfoldable pub is_word : ℕ → Bool
is_word w = leb w 0xFFFFFF
