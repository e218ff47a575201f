-- The forms of the arguments of a line, and what they write.
use Rattle.std.specs.Prelude.{ℕ, ◌/◌, ◌%◌, ◌^◌, List, [], ◌∷◌, Bool, false, true, Option, Some, None, cond, ◌&&◌, ◌||◌, ltb, leb, eqb, length}
use Rattle.reading.specs.Digits.{all, is_hex_digit, is_decimal_digit, hex_number, decimal_number}

-- 1 to 8 capital hexadecimal digits
abbrev pub word_of : List ℕ → Option ℕ
word_of s = cond (ltb 0 (length s) && leb (length s) 8 && all is_hex_digit s) (Some (hex_number s % 2 ^ 32)) None

-- 1 to `most` decimal digits
abbrev pub number_of : ℕ → List ℕ → Option ℕ
number_of most s = cond (ltb 0 (length s) && leb (length s) most && all is_decimal_digit s) (Some (decimal_number s % 2 ^ 32)) None

-- `-`
abbrev pub is_dash : List ℕ → Bool
is_dash [] = false
is_dash (b ∷ []) = eqb b 45
is_dash (b ∷ c ∷ bs) = false

-- an even number of capital hexadecimal digits, or `-` for no bytes
abbrev pub is_byte_text : List ℕ → Bool
is_byte_text s = is_dash s || (ltb 0 (length s) && eqb (length s % 2) 0 && all is_hex_digit s)

-- the same of at most `most` bytes, two digits for each
abbrev pub is_bytes : ℕ → List ℕ → Bool
is_bytes most s = leb (length s / 2) most && is_byte_text s

-- `0` or `1`
abbrev pub bit_of : List ℕ → Option Bool
bit_of [] = None
bit_of (b ∷ []) = cond (eqb b 48) (Some false) (cond (eqb b 49) (Some true) None)
bit_of (b ∷ c ∷ bs) = None
