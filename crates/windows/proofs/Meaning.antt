-- What the 24 bits of a window mean: the bits that the buffer's number has there. The idea: the first four bytes of a part
-- are the top of its number, and a part of three bytes holds a window only from its first bit on.
use mathlib.Core.Path.{◌≡◌, refl, sym, ap, ap₂, ◌∙◌}
use mathlib.Core.Logic.{◌⊎◌, inl, inr}
use mathlib.Core.List.{List, [], ◌∷◌}
use Prim.Native.Nat.{ℕ, zero, suc, ◌+◌, ◌-◌, ◌*◌, ◌/◌, ◌%◌, ◌^◌, ◌<◌, ◌≤◌}
use native.Mathlib.Nat.{add-zero, div-one, eq-or-lt_of_le, mod-lt, mul-one}
use native.Mathlib.Omega.{arith}
use lib.Bits.{bit_xor, xor_lt, xor_block, xor_zero_r}
use lib.Count.{ones, ones_cat}
use lib.Dec.{lit<}
use lib.ListN.{length, get_or, set, take, drop, length-drop, length-set, get_or-eq_default}
use lib.Pow.{pow_pos, shl_exact, shr-shr, high, split}
use lib.Seq.{take_all}
use Rattle.message.specs.Message.{number, Bytes}
use Rattle.division.proofs.Laws.{xor-shl, shl-shl}
use Rattle.message.proofs.Laws.{number-nil, number-next, number-cons, number-one, number_append, number-split, number_lt, bytes_drop}
use Rattle.windows.specs.Windows.{Starts, four_bytes, window_bits, stored, pattern_added}

three_or_more : (n : ℕ) → 3 ≤ n → (n ≡ 3) ⊎ (4 ≤ n)
three_or_more n h = pick (eq-or-lt_of_le h)
  where
    pick : (3 ≡ n) ⊎ (3 < n) → (n ≡ 3) ⊎ (4 ≤ n)
    pick (inl e) = inl (sym e)
    pick (inr l) = inr l

-- ---- the first four bytes

first_three : (p : List ℕ) → 3 ≤ length p → number (take 3 p) ≡ get_or p 0 0 * 65536 + get_or p 1 0 * 256 + get_or p 2 0
first_three p h =
    let none : number (take 0 p) ≡ 0 = number-nil in
    let one : number (take 1 p) ≡ number (take 0 p) * 2 ^ 8 + get_or p 0 0 = number-next p 0 (omega arith) in
    let two : number (take 2 p) ≡ number (take 1 p) * 2 ^ 8 + get_or p 1 0 = number-next p 1 (omega arith) in
    let three : number (take 3 p) ≡ number (take 2 p) * 2 ^ 8 + get_or p 2 0 = number-next p 2 (omega arith) in
    omega arith

four_of_three : (p : List ℕ) → length p ≡ 3 → four_bytes p ≡ number p * 256
four_of_three p h =
    let three : number p ≡ get_or p 0 0 * 65536 + get_or p 1 0 * 256 + get_or p 2 0 = ap number (sym (take_all 3 p (omega arith))) ∙ first_three p (omega arith) in
    let past : get_or p 3 0 ≡ 0 = get_or-eq_default p 0 (omega arith) in
    omega arith

take-four : (p : List ℕ) → 4 ≤ length p → number (take 4 p) ≡ four_bytes p
take-four p h =
    let four : number (take 4 p) ≡ number (take 3 p) * 2 ^ 8 + get_or p 3 0 = number-next p 3 (omega arith) in
    let three = first_three p (omega arith) in
    omega arith

four_of_more : (p : List ℕ) → Bytes p → 4 ≤ length p → four_bytes p ≡ number p / 2 ^ (8 * (length p - 4))
four_of_more p hb h =
    sym (take-four p h)
    ∙ sym (high (number (take 4 p)) (8 * length (drop 4 p)) (number_lt (drop 4 p) (bytes_drop 4 p hb)))
    ∙ ap₂ (λ (n k : ℕ). n / 2 ^ (8 * k)) (sym (number-split 4 p)) (length-drop 4 p)

four-lt : (p : List ℕ) → Bytes p → four_bytes p < 2 ^ 32
four-lt p h = omega (arith, h 0, h 1, h 2, h 3)

-- ---- the bits of the window

bits_of_three : (p : List ℕ) (offset : ℕ) → length p ≡ 3 → offset ≡ 0 → window_bits p offset ≡ number p / 2 ^ (8 * length p - 24 - offset) % 2 ^ 24
unfolding window_bits
bits_of_three p offset l o =
    let exponent : 8 * length p - 24 - offset ≡ 0 = omega arith in
    let quotient : number p * 256 / 256 ≡ number p = omega arith in
    ap₂ (λ (n k : ℕ). n / 2 ^ (8 - k) % 2 ^ 24) (four_of_three p l) o
    ∙ ap (λ (n : ℕ). n % 2 ^ 24) (quotient ∙ sym (div-one (number p)))
    ∙ ap (λ (k : ℕ). number p / 2 ^ k % 2 ^ 24) (sym exponent)

bits_of_more : (p : List ℕ) (offset : ℕ) → Bytes p → offset < 8 → 4 ≤ length p → window_bits p offset ≡ number p / 2 ^ (8 * length p - 24 - offset) % 2 ^ 24
unfolding window_bits
bits_of_more p offset hb o h =
    let exponent : 8 * (length p - 4) + (8 - offset) ≡ 8 * length p - 24 - offset = omega arith in
    ap (λ (n : ℕ). n / 2 ^ (8 - offset) % 2 ^ 24) (four_of_more p hb h)
    ∙ ap (λ (n : ℕ). n % 2 ^ 24) (shr-shr (number p) (8 * (length p - 4)) (8 - offset))
    ∙ ap (λ (k : ℕ). number p / 2 ^ k % 2 ^ 24) exponent

pub window_number : (p : List ℕ) (offset : ℕ) → Bytes p → Starts p offset → window_bits p offset ≡ number p / 2 ^ (8 * length p - 24 - offset) % 2 ^ 24
window_number p offset hb s = by (three_or_more (length p) (omega arith))
  where
    by : (length p ≡ 3) ⊎ (4 ≤ length p) → window_bits p offset ≡ number p / 2 ^ (8 * length p - 24 - offset) % 2 ^ 24
    by (inl e) = bits_of_three p offset e (omega arith)
    by (inr l) = bits_of_more p offset hb s.0 l

-- ---- few marks in four bytes are few in each window

ones_split : (k n : ℕ) → ones n ≡ ones (n / 2 ^ k) + ones (n % 2 ^ k)
ones_split k n = ap ones (sym (split n k)) ∙ ones_cat k (n / 2 ^ k) (n % 2 ^ k) (mod-lt n (pow_pos k))

pub sparse_window : (p : List ℕ) (offset l : ℕ) → ones (four_bytes p) ≤ l → ones (window_bits p offset) ≤ l
unfolding window_bits
sparse_window p offset l h =
    let above = ones_split (8 - offset) (four_bytes p) in
    let within = ones_split 24 (four_bytes p / 2 ^ (8 - offset)) in
    omega arith

-- ---- a pattern added

stored_three : (p : List ℕ) (n : ℕ) → length p ≡ 3 → stored p n ≡ n / 16777216 ∷ n / 65536 % 256 ∷ n / 256 % 256 ∷ []
stored_three [] n h = absurd (omega arith)
stored_three (a ∷ []) n h = absurd (omega arith)
stored_three (a ∷ b ∷ []) n h = absurd (omega arith)
stored_three (a ∷ b ∷ c ∷ []) n h = refl
stored_three (a ∷ b ∷ c ∷ d ∷ p) n h = absurd (omega arith)

stored_more : (p : List ℕ) (n : ℕ) → 4 ≤ length p → stored p n ≡ n / 16777216 ∷ n / 65536 % 256 ∷ n / 256 % 256 ∷ n % 256 ∷ drop 4 p
stored_more [] n h = absurd (omega arith)
stored_more (a ∷ []) n h = absurd (omega arith)
stored_more (a ∷ b ∷ []) n h = absurd (omega arith)
stored_more (a ∷ b ∷ c ∷ []) n h = absurd (omega arith)
stored_more (a ∷ b ∷ c ∷ d ∷ p) n h = refl

pub added-length : (p : List ℕ) (offset x : ℕ) → length (pattern_added p offset x) ≡ length p
unfolding pattern_added
added-length p offset x = simp length-set

set-bytes : (l : List ℕ) (i b : ℕ) → Bytes l → b < 2 ^ 8 → Bytes (set l i b)
set-bytes [] i b hl hb j = lit< tt
set-bytes (x ∷ l) zero b hl hb zero = hb
set-bytes (x ∷ l) zero b hl hb (suc j) = hl (suc j)
set-bytes (x ∷ l) (suc i) b hl hb zero = hl zero
set-bytes (x ∷ l) (suc i) b hl hb (suc j) = set-bytes l i b (λ k. hl (suc k)) hb j

stored_bytes : (p : List ℕ) (n : ℕ) → Bytes p → n < 2 ^ 32 → Bytes (stored p n)
stored_bytes p n hp h =
    let one : List ℕ = set p 0 (n / 16777216) in
    let two : List ℕ = set one 1 (n / 65536 % 256) in
    let three : List ℕ = set two 2 (n / 256 % 256) in
    set-bytes three 3 (n % 256)
    (set-bytes two 2 (n / 256 % 256)
    (set-bytes one 1 (n / 65536 % 256) (set-bytes p 0 (n / 16777216) hp (omega arith)) (omega arith)) (omega arith)) (omega arith)

pub added-bytes : (p : List ℕ) (offset x : ℕ) → Bytes p → Bytes (pattern_added p offset x)
unfolding pattern_added
added-bytes p offset x hp =
    stored_bytes p (bit_xor (four_bytes p) (x * 2 ^ (8 - offset) % 2 ^ 32)) hp
    (xor_lt 32 (four_bytes p) (x * 2 ^ (8 - offset) % 2 ^ 32) (four-lt p hp) (mod-lt (x * 2 ^ (8 - offset)) (pow_pos 32)))

-- the number of the bytes stored
four : (n : ℕ) (r : List ℕ) → number (n / 16777216 ∷ n / 65536 % 256 ∷ n / 256 % 256 ∷ n % 256 ∷ r) ≡ n * 2 ^ (8 * length r) + number r
four n r =
    number_append (n / 16777216 ∷ n / 65536 % 256 ∷ n / 256 % 256 ∷ n % 256 ∷ []) r
    ∙ ap (λ (x : ℕ). x * 2 ^ (8 * length r) + number r) whole
  where
    whole : number (n / 16777216 ∷ n / 65536 % 256 ∷ n / 256 % 256 ∷ n % 256 ∷ []) ≡ n
    whole =
        let a = number-cons (n / 16777216) (n / 65536 % 256 ∷ n / 256 % 256 ∷ n % 256 ∷ []) in
        let b = number-cons (n / 65536 % 256) (n / 256 % 256 ∷ n % 256 ∷ []) in
        let c = number-cons (n / 256 % 256) (n % 256 ∷ []) in
        let d = number-one (n % 256) in
        omega arith

three : (n : ℕ) → n % 256 ≡ 0 → number (n / 16777216 ∷ n / 65536 % 256 ∷ n / 256 % 256 ∷ []) * 256 ≡ n
three n h =
    let a = number-cons (n / 16777216) (n / 65536 % 256 ∷ n / 256 % 256 ∷ []) in
    let b = number-cons (n / 65536 % 256) (n / 256 % 256 ∷ []) in
    let c = number-one (n / 256 % 256) in
    omega arith

-- the number of a part with a pattern added that the four bytes have room for
added_to_three : (p : List ℕ) (offset x : ℕ) → length p ≡ 3 → offset ≡ 0
    → number (stored p (bit_xor (four_bytes p) (x * 2 ^ (8 - offset)))) ≡ bit_xor (number p) (x * 2 ^ (8 * length p - 24 - offset))
added_to_three p offset x l o =
    let place : 8 * length p - 24 - offset ≡ 0 = omega arith in
    let n : ℕ = bit_xor (four_bytes p) (x * 2 ^ (8 - offset)) in
    let whole : n ≡ bit_xor (number p) x * 256 =
    ap₂ bit_xor (four_of_three p l) (ap (λ (k : ℕ). x * 2 ^ (8 - k)) o) ∙ sym (xor-shl (number p) x 8) in
    let bytes : number (stored p n) ≡ number (n / 16777216 ∷ n / 65536 % 256 ∷ n / 256 % 256 ∷ []) = ap number (stored_three p n l) in
    let even : n % 256 ≡ 0 = omega arith in
    let times = three n even in
    let same : number (stored p n) ≡ bit_xor (number p) x = omega arith in
    same ∙ ap (bit_xor (number p)) (sym (mul-one x) ∙ ap (λ (k : ℕ). x * 2 ^ k) (sym place))

added_to_more : (p : List ℕ) (offset x : ℕ) → Bytes p → offset < 8 → 4 ≤ length p
    → number (stored p (bit_xor (four_bytes p) (x * 2 ^ (8 - offset)))) ≡ bit_xor (number p) (x * 2 ^ (8 * length p - 24 - offset))
added_to_more p offset x hp o l =
    let r : List ℕ = drop 4 p in
    let k : ℕ = 8 * length r in
    let place : 8 - offset + k ≡ 8 * length p - 24 - offset = omega (arith, length-drop 4 p) in
    ap number (stored_more p (bit_xor (four_bytes p) (x * 2 ^ (8 - offset))) l)
    ∙ four (bit_xor (four_bytes p) (x * 2 ^ (8 - offset))) r
    ∙ ap (λ (n : ℕ). bit_xor (four_bytes p) (x * 2 ^ (8 - offset)) * 2 ^ k + n) (sym (xor_zero_r (number r)))
    ∙ sym (xor_block k (four_bytes p) (x * 2 ^ (8 - offset)) (number r) 0 (number_lt r (bytes_drop 4 p hp)) (pow_pos k))
    ∙ ap₂ bit_xor
    (ap (λ (t : ℕ). t * 2 ^ k + number r) (sym (take-four p l)) ∙ sym (number-split 4 p))
    (add-zero (x * 2 ^ (8 - offset) * 2 ^ k) ∙ shl-shl x (8 - offset) k ∙ ap (λ (e : ℕ). x * 2 ^ e) place)

pub added-number : (p : List ℕ) (offset x : ℕ) → Bytes p → Starts p offset → x < 2 ^ 24
    → number (pattern_added p offset x) ≡ bit_xor (number p) (x * 2 ^ (8 * length p - 24 - offset))
unfolding pattern_added
added-number p offset x hp s hx =
    ap (λ (y : ℕ). number (stored p (bit_xor (four_bytes p) y))) (shl_exact 24 (8 - offset) 32 hx (omega arith))
    ∙ by (three_or_more (length p) (omega arith))
  where
    by : (length p ≡ 3) ⊎ (4 ≤ length p) → number (stored p (bit_xor (four_bytes p) (x * 2 ^ (8 - offset)))) ≡ bit_xor (number p) (x * 2 ^ (8 * length p - 24 - offset))
    by (inl e) = added_to_three p offset x e (omega arith)
    by (inr l) = added_to_more p offset x hp s.0 l
