-- What the columns of a well-formed line hold.
use mathlib.Core.Path.{◌≡◌}
use mathlib.Core.Bool.{Bool, true, ◌&&◌, and-eq-true_iff}
use mathlib.Core.List.{List}
use Prim.Native.Nat.{ℕ, ◌+◌, ◌%◌, ◌≤◌}
use native.Mathlib.Omega.{arith}
use lib.ListN.{length}
use lib.Dec.{leb, eqb}
use borrow.Author.Tests.{leb-true, eqb-true}
use Rattle.reading.specs.Digits.{is_hex_digit, is_decimal_digit, all, hex_bytes}
use Rattle.reading.proofs.Laws.{hex_bytes-length}
use Rattle.request.specs.Requests.{is_bytes_column, is_word_column, is_limit_column, well_formed}

-- ---- tests joined

all_three : (a b c : Bool) → (a && b && c) ≡ true → (a ≡ true) × (b ≡ true) × (c ≡ true)
all_three a b c e =
    let last = (and-eq-true_iff (a && b) c).0 e in
    let first = (and-eq-true_iff a b).0 last.0 in
    (first.0, first.1, last.1)

all-four : (a b c d : Bool) → (a && b && c && d) ≡ true → (a ≡ true) × (b ≡ true) × (c ≡ true) × (d ≡ true)
all-four a b c d e =
    let last = (and-eq-true_iff (a && b && c) d).0 e in
    let first = all_three a b c last.0 in
    (first.0, first.1, first.2, last.1)

-- ---- one column

bytes_digits : (s : List ℕ) → is_bytes_column s ≡ true → length s ≤ 28
unfolding is_bytes_column
bytes_digits s e =
    let tests = all-four (leb 2 (length s)) (leb (length s) 28) (eqb (length s % 2) 0) (all is_hex_digit s) e in
    leb-true (length s) 28 tests.1

-- 28 digits write 14 bytes
bytes_fit : (s : List ℕ) → is_bytes_column s ≡ true → length (hex_bytes s) ≤ 14
bytes_fit s e = omega (arith, hex_bytes-length s, bytes_digits s e)

word_digits : (s : List ℕ) → is_word_column s ≡ true → length s ≡ 6
unfolding is_word_column
word_digits s e = eqb-true (length s) 6 ((and-eq-true_iff (eqb (length s) 6) (all is_hex_digit s)).0 e).0

limit_digits : (s : List ℕ) → is_limit_column s ≡ true → (length s ≤ 2) × (all is_decimal_digit s ≡ true)
unfolding is_limit_column
limit_digits s e =
    let tests = all_three (leb 1 (length s)) (leb (length s) 2) (all is_decimal_digit s) e in
    (leb-true (length s) 2 tests.1, tests.2)

-- ---- the four columns

module _ (m c w l : List ℕ) (e : well_formed m c w l ≡ true) where
  columns-formed : (is_bytes_column m ≡ true) × (is_bytes_column c ≡ true) × (is_word_column w ≡ true) × (is_limit_column l ≡ true)
  unfolding well_formed
  columns-formed = all-four (is_bytes_column m) (is_bytes_column c) (is_word_column w) (is_limit_column l) e

  pub message-fits : length (hex_bytes m) ≤ 14
  message-fits = bytes_fit m columns-formed.0

  pub confidence-fits : length (hex_bytes c) ≤ 14
  confidence-fits = bytes_fit c columns-formed.1

  pub word_size : length w ≡ 6
  word_size = word_digits w columns-formed.2

  pub limit-size : length l ≤ 2
  limit-size = (limit_digits l columns-formed.3).0

  pub limit-decimal : all is_decimal_digit l ≡ true
  limit-decimal = (limit_digits l columns-formed.3).1

  -- 28 digits and 28, 6 and 2
  pub all_digits : length m + length c + length w + length l ≤ 64
  all_digits =
      omega (arith, bytes_digits m columns-formed.0, bytes_digits c columns-formed.1, word_size, limit-size)
