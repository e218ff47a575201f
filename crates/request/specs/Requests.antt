-- The four columns of a well-formed line (document 01, 'The program sift').
use Rattle.std.specs.Prelude.{ℕ, ◌%◌, List, Bool, ◌&&◌, length, eqb, leb}
use Rattle.reading.specs.Digits.{is_decimal_digit, is_hex_digit, all}

-- 'message, confidence (2 to 28 capital hexadecimal digits each, an even number)'
unfoldable pub is_bytes_column : List ℕ → Bool
is_bytes_column s = leb 2 (length s) && leb (length s) 28 && eqb (length s % 2) 0 && all is_hex_digit s

-- 'word (6 such digits)'
unfoldable pub is_word_column : List ℕ → Bool
is_word_column s = eqb (length s) 6 && all is_hex_digit s

-- 'limit (1 or 2 decimal digits)'
unfoldable pub is_limit_column : List ℕ → Bool
is_limit_column s = leb 1 (length s) && leb (length s) 2 && all is_decimal_digit s

unfoldable pub well_formed : List ℕ → List ℕ → List ℕ → List ℕ → Bool
well_formed m c w l = is_bytes_column m && is_bytes_column c && is_word_column w && is_limit_column l
