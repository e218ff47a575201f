-- The three ways to R: what the loops that go them keep, and that they agree. The idea: the definition of each way names the
-- next step, so a loop keeps that the way from here over what is left is the whole way. One turn is then a step of the
-- definition, or, where a turn takes a byte and the definition a bit, the law that eight bits of the field are the bits of
-- its next byte. That the ways agree is `parity_extend`, the law that they share, for any field length: the register takes
-- it at one bit more, the byte table at eight, and the rows at all that follows one bit (`parity-row`).
use mathlib.Core.Path.{◌≡◌, refl, sym, ap, ap₂, ◌∙◌, subst}
use mathlib.Core.List.{List, [], ◌∷◌}
use Prim.Native.Nat.{ℕ, zero, suc, ◌+◌, ◌-◌, ◌*◌, ◌/◌, ◌%◌, ◌^◌, ◌≤◌, ◌<◌}
use native.Mathlib.Nat.{not-suc-le-zero, mod-lt, zero-lt-suc, zero-mul, mul-one, mod-one, add-zero, add_comm, suc-add, add_assoc, sub-zero, le_of_suc-le-suc, one-mul, zero-add, mod-eq_of_lt}
use native.Mathlib.Numerals.{add-one, one-add, unary_clauses}
use native.Mathlib.Omega.{arith}
use lib.ListN.{length, get_or, take, drop, length-take, length-drop, drop_of_length-le}
use lib.Seq.{drop-cons, get_or-take, get_or-drop}
use lib.Arith.{le-zero}
use lib.Pow.{pow_pos, pow-add, shr-shr, mod-pow-add, mod-mod-pow, field as cut, high, low}
use lib.Bits.{bit_and, bit_xor, xor_zero_r, xor_lt}
use Rattle.std.proofs.lemmas.Nat.{and_mask}
use Rattle.std.specs.Int.{w32, to_be_bytes}
use Rattle.division.specs.Division.{remainder, shift_in, parity}
use Rattle.message.specs.Message.{number, Bytes}
use Rattle.division.specs.Tables.{IsByteTable, IsRowTable}
use Rattle.division.specs.Ways.{register_from, register_way, table_step, table_way, rows_from, row_sum, ThreeWays}
use Rattle.division.proofs.Xor.{xor_assoc}
use Rattle.division.proofs.Dividing.{remainder-lt}
use Rattle.division.proofs.Shifting.{shift_in_byte, shift_in-lt, parity-zero, parity-lt, parity_extend, parity-row}
use Rattle.message.proofs.Laws.{field-length-le, number-next, number-split, number_lt, number-append_byte, bytes_drop}

-- ---- which bits of a number count

module _ (k m n : ℕ) (h : m % 2 ^ suc k ≡ n % 2 ^ suc k) where
  longer : m % 2 ^ (1 + k) ≡ n % 2 ^ (1 + k)
  longer = subst (λ (e : ℕ). m % 2 ^ e ≡ n % 2 ^ e) (sym (one-add k)) h

  same_bit : m / 2 ^ k % 2 ≡ n / 2 ^ k % 2
  same_bit = sym (cut m 1 k) ∙ ap (λ (x : ℕ). x / 2 ^ k) longer ∙ cut n 1 k

  same_rest : m % 2 ^ k ≡ n % 2 ^ k
  same_rest = sym (mod-mod-pow m 1 k) ∙ ap (λ (x : ℕ). x % 2 ^ k) longer ∙ mod-mod-pow n 1 k

above : (m j k : ℕ) → m / 2 ^ (j + k) ≡ m / 2 ^ k / 2 ^ j
above m j k = ap (λ (e : ℕ). m / 2 ^ e) (add_comm j k) ∙ sym (shr-shr m k j)

-- the eight bits of a field that are its byte i
field_byte : (f : List ℕ) (i : ℕ) → Bytes f → i < length f
    → number f / 2 ^ (8 * (length f - (i + 1))) % 2 ^ 8 ≡ get_or f i 0 % 2 ^ 8
field_byte f i h l =
    ap (λ (d : ℕ). number f / 2 ^ (8 * d) % 2 ^ 8) (sym (length-drop (i + 1) f))
    ∙ ap (λ (n : ℕ). n / 2 ^ (8 * length (drop (i + 1) f)) % 2 ^ 8) (number-split (i + 1) f)
    ∙ ap (λ (n : ℕ). n % 2 ^ 8)
    (high (number (take (i + 1) f)) (8 * length (drop (i + 1) f)) (number_lt (drop (i + 1) f) (bytes_drop (i + 1) f h))
    ∙ number-next f i l)
    ∙ low (number (take i f)) 8 (h i) ∙ sym (mod-eq_of_lt (h i))

next_byte : (n i : ℕ) → i < n → 8 * (n - i) ≡ 8 + 8 * (n - (i + 1))
next_byte n i l = omega arith

-- ---- the register, a bit at a step

pub register-lt : (k r m : ℕ) → r < 2 ^ 24 → register_from r k m < 2 ^ 24
unfolding register_from
register-lt zero r m h = h
register-lt (suc k) r m h = register-lt k (shift_in 1 r (m / 2 ^ k % 2)) m (shift_in-lt 1 r (m / 2 ^ k % 2))

register_bit : (left r s m : ℕ) → 0 < left → s ≡ shift_in 1 r (m / 2 ^ (left - 1) % 2) → register_from s (left - 1) m ≡ register_from r left m
unfolding register_from
register_bit zero r s m h e = absurd (not-suc-le-zero h)
register_bit (suc k) r s m h e = ap (λ (x : ℕ). register_from x (suc k - 1) m) e ∙ simp unary_clauses

-- the same by the bits of a byte that are taken
pub register_turn : (taken r s m : ℕ) → taken < 8 → s ≡ shift_in 1 r (m / 2 ^ (7 - taken) % 2) → register_from s (8 - (taken + 1)) m ≡ register_from r (8 - taken) m
register_turn taken r s m h e =
    let p : 7 - taken ≡ 8 - taken - 1 = omega arith in
    let q : 8 - (taken + 1) ≡ 8 - taken - 1 = omega arith in
    rw q (register_bit (8 - taken) r s m (omega arith) (rw p at e))

pub register-end : (left r m : ℕ) → left ≤ 0 → register_from r left m ≡ r
unfolding register_from
register-end left r m h = ap (λ (k : ℕ). register_from r k m) (le-zero h)

-- ---- the register, a byte at a step

register_low : (k r m n : ℕ) → m % 2 ^ k ≡ n % 2 ^ k → register_from r k m ≡ register_from r k n
unfolding register_from
register_low zero r m n h = refl
register_low (suc k) r m n h =
    ap (λ (b : ℕ). register_from (shift_in 1 r b) k m) (same_bit k m n h) ∙ register_low k _ m n (same_rest k m n h)

-- j + k bits are j bits, and k more
register-split : (j k r m : ℕ) → register_from r (j + k) m ≡ register_from (register_from r j (m / 2 ^ k)) k m
unfolding register_from
register-split zero k r m = ap (λ (n : ℕ). register_from r n m) (zero-add k)
register-split (suc j) k r m =
    ap (λ (n : ℕ). register_from r n m) (suc-add j k)
    ∙ register-split j k (shift_in 1 r (m / 2 ^ (j + k) % 2)) m
    ∙ ap (λ (n : ℕ). register_from (register_from (shift_in 1 r (n % 2)) j (m / 2 ^ k)) k m) (above m j k)

pub register-start : (f : List ℕ) → register_from 0 (8 * (length f - 0)) (number f) ≡ register_way (8 * length f) (number f)
unfolding register_way
register-start f = ap (λ (n : ℕ). register_from 0 (8 * n) (number f)) (sub-zero (length f))

pub register_byte : (f : List ℕ) (i r s : ℕ) → Bytes f → i < length f → s ≡ register_from r 8 (get_or f i 0)
    → register_from s (8 * (length f - (i + 1))) (number f) ≡ register_from r (8 * (length f - i)) (number f)
register_byte f i r s h l e =
    ap (λ (x : ℕ). register_from x (8 * (length f - (i + 1))) (number f)) (e ∙ register_low 8 r _ _ (sym (field_byte f i h l)))
    ∙ sym (register-split 8 (8 * (length f - (i + 1))) r (number f))
    ∙ ap (λ (n : ℕ). register_from r n (number f)) (sym (next_byte (length f) i l))

-- ---- the byte table

pub table_step-lt : (r b : ℕ) → table_step r b < 2 ^ 24
unfolding table_step
table_step-lt r b = xor_lt 24 (r % 2 ^ 16 * 2 ^ 8) (parity (bit_xor (r / 2 ^ 16) b)) (omega arith) (parity-lt (bit_xor (r / 2 ^ 16) b))

pub table_byte : (f : List ℕ) (i r s : ℕ) → i < length f → s ≡ table_step r (get_or f i 0) → table_way s (drop (i + 1) f) ≡ table_way r (drop i f)
unfolding table_way
table_byte f i r s l e =
    ap₂ (λ (x n : ℕ). table_way x (drop n f)) e (add-one i) ∙ ap (table_way r) (sym (drop-cons f i 0 l))

pub table_end : (f : List ℕ) (i r : ℕ) → length f ≤ i → table_way r (drop i f) ≡ r
unfolding table_way
table_end f i r l = ap (table_way r) (drop_of_length-le f l)

-- the entry that the byte which leaves and the byte which enters pick; the byte which leaves is the second of four
pub table_entry : (t : List ℕ) (r b at : ℕ) → IsByteTable t → r < 2 ^ 24 → b < 2 ^ 8 → at ≡ bit_xor (get_or (to_be_bytes w32 r) 1 0) b
    → bit_xor (r % 65536 * 256) (get_or t at 0) ≡ table_step r b
unfolding IsByteTable table_step
table_entry t r b at h hr hb e =
    let leaving : r / 65536 % 256 ≡ r / 65536 = omega arith in
    let is : at ≡ bit_xor (r / 65536) b = e ∙ ap (λ (n : ℕ). bit_xor n b) leaving in
    ap (bit_xor (r % 65536 * 256)) (ap (λ (n : ℕ). get_or t n 0) is ∙ h (bit_xor (r / 65536) b) (xor_lt 8 (r / 65536) b (omega arith) hb))

pub table_entry-lt : (t : List ℕ) (r b at : ℕ) → IsByteTable t → r < 2 ^ 24 → b < 2 ^ 8 → at ≡ bit_xor (get_or (to_be_bytes w32 r) 1 0) b
    → bit_xor (r % 65536 * 256) (get_or t at 0) < 2 ^ 24
table_entry-lt t r b at h hr hb e = subst (λ (n : ℕ). n < 2 ^ 24) (sym (table_entry t r b at h hr hb e)) (table_step-lt r b)

-- ---- the rows, a bit at a step

rows_bit : (e left m row sum : ℕ) → 0 < left → row ≡ remainder (2 ^ (24 + e + (left - 1)))
    → bit_xor (bit_xor sum (m / 2 ^ (left - 1) % 2 * row)) (rows_from e (left - 1) m) ≡ bit_xor sum (rows_from e left m)
unfolding rows_from
rows_bit e zero m row sum h w = absurd (not-suc-le-zero h)
rows_bit e (suc k) m row sum h w =
    simp unary_clauses
    (xor_assoc sum (m / 2 ^ k % 2 * row) (rows_from e k m)
    ∙ ap (λ (v : ℕ). bit_xor sum (bit_xor (m / 2 ^ k % 2 * v) (rows_from e k m))) (simp unary_clauses at w))

rows_turn : (e taken m row sum : ℕ) → taken < 8 → row ≡ remainder (2 ^ (24 + e + (7 - taken)))
    → bit_xor (bit_xor sum (m / 2 ^ (7 - taken) % 2 * row)) (rows_from e (8 - (taken + 1)) m) ≡ bit_xor sum (rows_from e (8 - taken) m)
rows_turn e taken m row sum h w =
    let p : 7 - taken ≡ 8 - taken - 1 = omega arith in
    let q : 8 - (taken + 1) ≡ 8 - taken - 1 = omega arith in
    rw (p, q) (rows_bit e (8 - taken) m row sum (omega arith) (rw p at w))

pub rows_end : (e left m sum : ℕ) → left ≤ 0 → bit_xor sum (rows_from e left m) ≡ sum
unfolding rows_from
rows_end e left m sum h = ap (λ (k : ℕ). bit_xor sum (rows_from e k m)) (le-zero h) ∙ xor_zero_r sum

-- a row and the 32 copies of a bit, which negation makes
bit_times : (t m v : ℕ) → t < 2 → v < 2 ^ 32 → m < 2 ^ 32 → (m + t) % 2 ^ 32 ≡ 0 → bit_and v m ≡ t * v
bit_times zero m v ht hv hm e = let n : m ≡ 0 = omega arith in ap (bit_and v) n ∙ and_mask v 0 ∙ mod-one v ∙ sym (zero-mul v)
bit_times (suc zero) m v ht hv hm e =
    let n : m ≡ 2 ^ 32 - 1 = omega arith in ap (bit_and v) n ∙ and_mask v 32 ∙ mod-eq_of_lt hv ∙ sym (one-mul v)
bit_times (suc (suc t)) m v ht hv hm e = absurd (not-suc-le-zero (le_of_suc-le-suc (le_of_suc-le-suc ht)))

-- the same by the table, of which the byte's eight rows are taken
pub row_turn : (rows : List ℕ) (at taken m mask sum : ℕ) → IsRowTable rows → at ≤ 80 → taken < length (take (at + 8 - at) (drop at rows))
    → mask < 2 ^ 32 → (mask + m / 2 ^ (7 - taken) % 2) % 2 ^ 32 ≡ 0
    → bit_xor (bit_xor sum (bit_and (get_or (take (at + 8 - at) (drop at rows)) taken 0) mask)) (rows_from (80 - at) (8 - (taken + 1)) m) ≡ bit_xor sum (rows_from (80 - at) (8 - taken) m)
unfolding IsRowTable
row_turn rows at taken m mask sum t ha hl hm e =
    let row : ℕ = get_or (take (at + 8 - at) (drop at rows)) taken 0 in
    let ht : taken < 8 = omega (arith, length-take (at + 8 - at) (drop at rows)) in
    let is : row ≡ remainder (2 ^ (111 - (at + taken))) =
    get_or-take (at + 8 - at) (drop at rows) taken 0 (omega arith) ∙ get_or-drop at rows taken 0 ∙ t (at + taken) (omega arith) in
    let place : 111 - (at + taken) ≡ 24 + (80 - at) + (7 - taken) = omega arith in
    let fits : row < 2 ^ 32 = rw is (omega (arith, remainder-lt (2 ^ (111 - (at + taken))))) in
    ap (λ (n : ℕ). bit_xor (bit_xor sum n) (rows_from (80 - at) (8 - (taken + 1)) m)) (bit_times (m / 2 ^ (7 - taken) % 2) mask row (mod-lt _ (zero-lt-suc 1)) fits hm e)
    ∙ rows_turn (80 - at) taken m row sum ht (is ∙ ap (λ (n : ℕ). remainder (2 ^ n)) place)

-- ---- the rows, a byte at a step

rows_low : (e k m n : ℕ) → m % 2 ^ k ≡ n % 2 ^ k → rows_from e k m ≡ rows_from e k n
unfolding rows_from
rows_low e zero m n h = refl
rows_low e (suc k) m n h =
    ap₂ (λ (b s : ℕ). bit_xor (b * remainder (2 ^ (24 + e + k))) s) (same_bit k m n h) (rows_low e k m n (same_rest k m n h))

-- the rows of j + k bits are those of the upper j and those of the k below
rows_split : (j k m : ℕ) → row_sum (j + k) m ≡ bit_xor (rows_from k j (m / 2 ^ k)) (row_sum k m)
unfolding row_sum rows_from
rows_split zero k m = ap (λ (n : ℕ). rows_from 0 n m) (zero-add k)
rows_split (suc j) k m =
    ap (λ (n : ℕ). rows_from 0 n m) (suc-add j k)
    ∙ ap₂ bit_xor
    (ap₂ (λ (b p : ℕ). b % 2 * remainder (2 ^ p)) (above m j k) (ap (λ (n : ℕ). 24 + n) (add_comm j k) ∙ sym (add_assoc 24 k j)))
    (rows_split j k m)
    ∙ sym (xor_assoc (m / 2 ^ k / 2 ^ j % 2 * remainder (2 ^ (24 + k + j))) (rows_from k j (m / 2 ^ k)) (rows_from 0 k m))

pub rows_start : (f : List ℕ) → bit_xor 0 (row_sum (8 * (length f - 0)) (number f)) ≡ row_sum (8 * length f) (number f)
rows_start f = ap (λ (n : ℕ). row_sum (8 * n) (number f)) (sub-zero (length f))

pub rows_byte : (f : List ℕ) (i sum added : ℕ) → Bytes f → i < length f → added ≡ rows_from (8 * (length f - (i + 1))) 8 (get_or f i 0)
    → bit_xor (bit_xor sum added) (row_sum (8 * (length f - (i + 1))) (number f)) ≡ bit_xor sum (row_sum (8 * (length f - i)) (number f))
rows_byte f i sum added h l e =
    xor_assoc sum added (row_sum k (number f))
    ∙ ap (λ (a : ℕ). bit_xor sum (bit_xor a (row_sum k (number f)))) (e ∙ rows_low k 8 _ _ (sym (field_byte f i h l)))
    ∙ ap (bit_xor sum) (sym (rows_split 8 k (number f)) ∙ ap (λ (n : ℕ). row_sum n (number f)) (sym (next_byte (length f) i l)))
  where
    k : ℕ
    k = 8 * (length f - (i + 1))

-- ---- the three ways agree

shift_past : (n b k m : ℕ) → (n * 2 + b) * 2 ^ k + m ≡ n * 2 ^ (1 + k) + (b * 2 ^ k + m)
shift_past n b k m = rw (pow-add 2 1 k) (omega arith)

register_way_lem : (k n m : ℕ) → register_from (parity n) k m ≡ parity (n * 2 ^ k + m % 2 ^ k)
unfolding register_from
register_way_lem zero n m = ap parity (sym (ap (λ (z : ℕ). n * 1 + z) (mod-one m) ∙ add-zero (n * 1) ∙ mul-one n))
register_way_lem (suc k) n m =
    ap (λ (r : ℕ). register_from r k m) (sym (parity_extend n 1 (m / 2 ^ k % 2) (mod-lt (m / 2 ^ k) (zero-lt-suc 1))))
    ∙ register_way_lem k (n * 2 + m / 2 ^ k % 2) m
    ∙ ap parity
    (shift_past n (m / 2 ^ k % 2) k (m % 2 ^ k) ∙ ap (λ (x : ℕ). n * 2 ^ (1 + k) + x) (sym (mod-pow-add m 1 k))
    ∙ ap (λ (e : ℕ). n * 2 ^ e + m % 2 ^ e) (one-add k))

table_way_lem : (n : ℕ) (f : List ℕ) → Bytes f → table_way (parity n) f ≡ parity (n * 2 ^ (8 * length f) + number f)
unfolding table_way table_step number
table_way_lem n [] h = ap parity (sym (add-zero (n * 1) ∙ mul-one n))
table_way_lem n (b ∷ f) h =
    ap (λ (r : ℕ). table_way r f)
    (shift_in_byte (parity n) b (parity-lt n) (h 0) ∙ sym (parity_extend n 8 b (h 0)))
    ∙ table_way_lem (n * 2 ^ 8 + b) f (λ i. h (suc i))
    ∙ ap parity (sym (number-append_byte n b f))

rows_way : (k m : ℕ) → row_sum k m ≡ parity (m % 2 ^ k)
unfolding row_sum rows_from
rows_way zero m = sym (ap parity (mod-one m) ∙ parity-zero)
rows_way (suc k) m =
    ap (bit_xor (m / 2 ^ k % 2 * remainder (2 ^ (24 + k)))) (rows_way k m)
    ∙ sym (parity-row (m / 2 ^ k % 2) k (m % 2 ^ k) (mod-lt (m / 2 ^ k) (zero-lt-suc 1)) (mod-lt m (pow_pos k)))
    ∙ ap parity (sym (mod-pow-add m 1 k) ∙ ap (λ (n : ℕ). m % 2 ^ n) (one-add k))

pub three_ways : ThreeWays
unfolding ThreeWays register_way
three_ways f h = (
  ap (λ (r : ℕ). register_from r (8 * length f) (number f)) (sym parity-zero) ∙ register_way_lem (8 * length f) 0 (number f)
      ∙ ap parity (from_nothing (number f % 2 ^ (8 * length f)) ∙ mod-eq_of_lt (number_lt f h)),
  ap (λ (r : ℕ). table_way r f) (sym parity-zero) ∙ table_way_lem 0 f h ∙ ap parity (from_nothing (number f)),
  rows_way (8 * length f) (number f) ∙ ap parity (mod-eq_of_lt (number_lt f h)),
)
  where
    from_nothing : (m : ℕ) → 0 * 2 ^ (8 * length f) + m ≡ m
    from_nothing m = ap (λ (n : ℕ). n + m) (zero-mul (2 ^ (8 * length f))) ∙ zero-add m

-- each of them
pub by_bits : (f : List ℕ) → Bytes f → register_way (8 * length f) (number f) ≡ parity (number f)
unfolding ThreeWays
by_bits f h = (three_ways f h).0

pub by_bytes : (f : List ℕ) → Bytes f → table_way 0 f ≡ parity (number f)
unfolding ThreeWays
by_bytes f h = (three_ways f h).1

pub by_rows : (f : List ℕ) → Bytes f → row_sum (8 * length f) (number f) ≡ parity (number f)
unfolding ThreeWays
by_rows f h = (three_ways f h).2

-- ---- what the functions need: the loops of each way, and the calls

pub ruleset register_steps = (register-lt, register-start, register_byte, register_turn, register-end, shift_in-lt)

pub ruleset one_entry = (table_entry, table_entry-lt)

pub ruleset table_steps = (table_step-lt, table_byte, table_end)

pub ruleset row_steps = (rows_start, rows_byte, row_turn, rows_end)

pub ruleset ways = (by_bits, by_bytes, by_rows, field-length-le)
