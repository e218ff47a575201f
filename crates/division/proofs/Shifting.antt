-- What becomes of a remainder when bits follow: the law that the register, the byte table and the rows share, and the
-- register run backwards. The idea: the remainder of x^k·a depends on the remainder of a alone, and multiplication by x
-- can be undone modulo the generator, since the generator has the constant term 1.
use mathlib.Core.Path.{◌≡◌, refl, sym, ap, ap₂, ◌∙◌, subst}
use Prim.Native.Nat.{ℕ, zero, suc, ◌+◌, ◌*◌, ◌/◌, ◌%◌, ◌^◌, ◌<◌}
use native.Mathlib.Nat.{le_of_suc-le-suc, not-suc-le-zero, mod-lt, zero-lt-suc, zero-mul, mul-one, one-mul, mul_assoc, mul_comm, add-zero, pow-suc, div-add-mod', div-lt_iff_lt-mul, mul-mod_left, mul-div_cancel}
use native.Mathlib.Omega.{arith}
use lib.Dec.{lit<}
use lib.Pow.{pow-add}
use lib.Bits.{bit_xor, xor_comm, xor_self, xor_zero_r, xor_lt, xor_mod, xor_shifted}
use Rattle.division.specs.Polynomial.{polynomial}
use Rattle.division.specs.Division.{generator, generator_powers, reduce, remainder, shift_in, backward, parity}
use Rattle.division.proofs.Xor.{xor_assoc, xor_half, xor_cancel_r, xor-zero→eq, xor-shl}
use Rattle.division.proofs.Dividing.{generator_is, remainder-zero, remainder-lt, remainder_small, remainder-xor, remainder-double, multiple, product-digit, product-zero}

two_pos : zero < 2
two_pos = zero-lt-suc 1

pub shl-suc : (a k : ℕ) → a * 2 ^ suc k ≡ a * 2 ^ k * 2
shl-suc a k = ap (λ (n : ℕ). a * n) (pow-suc 2 k) ∙ sym (mul_assoc a (2 ^ k) 2)

pub shl-shl : (a j k : ℕ) → a * 2 ^ j * 2 ^ k ≡ a * 2 ^ (j + k)
shl-shl a j k = mul_assoc a (2 ^ j) (2 ^ k) ∙ ap (λ (n : ℕ). a * n) (sym (pow-add 2 j k))

pub shl_comm : (a j k : ℕ) → a * 2 ^ j * 2 ^ k ≡ a * 2 ^ k * 2 ^ j
shl_comm a j k =
    mul_assoc a (2 ^ j) (2 ^ k) ∙ ap (λ (n : ℕ). a * n) (mul_comm (2 ^ j) (2 ^ k)) ∙ sym (mul_assoc a (2 ^ k) (2 ^ j))

-- ---- the remainder of x^k·a depends on the remainder of a alone

pub remainder_again : (a : ℕ) → remainder (remainder a) ≡ remainder a
remainder_again a = remainder_small (remainder a) (remainder-lt a)

pub remainder-shl : (a k : ℕ) → remainder (a * 2 ^ k) ≡ remainder (remainder a * 2 ^ k)
remainder-shl a zero = ap remainder (mul-one a) ∙ sym (ap remainder (mul-one (remainder a)) ∙ remainder_again a)
remainder-shl a (suc k) =
    ap remainder (shl-suc a k) ∙ remainder-double (a * 2 ^ k)
    ∙ ap (λ (r : ℕ). reduce (r * 2)) (remainder-shl a k)
    ∙ sym (ap remainder (shl-suc (remainder a) k) ∙ remainder-double (remainder a * 2 ^ k))

-- ---- the law that the three ways to R share

-- k bits after j bits are j + k bits
pub shift_in_more : (j k r b c : ℕ) → c < 2 ^ k → shift_in k (shift_in j r b) c ≡ shift_in (j + k) r (b * 2 ^ k + c)
unfolding shift_in
shift_in_more j k r b c h =
    remainder-xor (remainder before * 2 ^ k) (c * 2 ^ 24)
    ∙ ap (λ (n : ℕ). bit_xor n (remainder (c * 2 ^ 24))) (sym (remainder-shl before k))
    ∙ sym (remainder-xor (before * 2 ^ k) (c * 2 ^ 24))
    ∙ ap remainder
    (ap (λ (n : ℕ). bit_xor n (c * 2 ^ 24))
    (xor-shl (r * 2 ^ j) (b * 2 ^ 24) k ∙ ap₂ bit_xor (shl-shl r j k) (shl_comm b 24 k))
    ∙ xor_assoc (r * 2 ^ (j + k)) (b * 2 ^ k * 2 ^ 24) (c * 2 ^ 24)
    ∙ ap (bit_xor (r * 2 ^ (j + k)))
    (sym (xor-shl (b * 2 ^ k) c 24) ∙ ap (λ (n : ℕ). n * 2 ^ 24) (xor_shifted b k c h)))
  where
    before : ℕ
    before = bit_xor (r * 2 ^ j) (b * 2 ^ 24)

-- one bit more
pub dividend_lt : (r b : ℕ) → r < 2 ^ 24 → b < 2 → bit_xor (r * 2) (b * 2 ^ 24) < 2 ^ 25
dividend_lt r b hr hb = xor_lt 25 (r * 2) (b * 2 ^ 24) (omega arith) (omega arith)

-- what `shift_bit` needs
pub ruleset one_shift = (dividend_lt, remainder-lt)

-- R is what the register holds after the whole field, from 0
pub parity-shift_in : (k m : ℕ) → parity m ≡ shift_in k 0 m
unfolding parity shift_in
parity-shift_in k m = sym (ap (λ (n : ℕ). remainder (bit_xor n (m * 2 ^ 24))) (zero-mul (2 ^ k)))

-- R of x^k·M + b is the remainder of x^k·R(M) + x^24·b
pub parity_extend : (m k b : ℕ) → b < 2 ^ k → parity (m * 2 ^ k + b) ≡ shift_in k (parity m) b
parity_extend m k b h =
    parity-shift_in (k + k) (m * 2 ^ k + b) ∙ sym (shift_in_more k k 0 m b h)
    ∙ ap (λ (r : ℕ). shift_in k r b) (sym (parity-shift_in k m))

pub parity-zero : parity 0 ≡ 0
unfolding parity
parity-zero = remainder-zero

pub parity-xor : (m n : ℕ) → parity (bit_xor m n) ≡ bit_xor (parity m) (parity n)
unfolding parity
parity-xor m n = ap remainder (xor-shl m n 24) ∙ remainder-xor (m * 2 ^ 24) (n * 2 ^ 24)

pub parity-lt : (m : ℕ) → parity m < 2 ^ 24
unfolding parity
parity-lt m = remainder-lt (m * 2 ^ 24)

pub shift_in-lt : (k r b : ℕ) → shift_in k r b < 2 ^ 24
unfolding shift_in
shift_in-lt k r b = remainder-lt (bit_xor (r * 2 ^ k) (b * 2 ^ 24))

-- one bit t, and k bits after it: the row of that bit, and R of the others
pub parity-row : (t k b : ℕ) → t < 2 → b < 2 ^ k → parity (t * 2 ^ k + b) ≡ bit_xor (t * remainder (2 ^ (24 + k))) (parity b)
unfolding parity shift_in
parity-row t k b ht hb =
    parity_extend t k b hb ∙ remainder-xor (remainder (t * 2 ^ 24) * 2 ^ k) (b * 2 ^ 24)
    ∙ ap (λ (r : ℕ). bit_xor r (remainder (b * 2 ^ 24))) (sym (remainder-shl (t * 2 ^ 24) k) ∙ row t ht)
  where
    row : (t : ℕ) → t < 2 → remainder (t * 2 ^ 24 * 2 ^ k) ≡ t * remainder (2 ^ (24 + k))
    row zero h = ap remainder (zero-mul (2 ^ k)) ∙ remainder-zero ∙ sym (zero-mul (remainder (2 ^ (24 + k))))
    row (suc zero) h = ap remainder (shl-shl 1 24 k ∙ one-mul (2 ^ (24 + k))) ∙ sym (one-mul (remainder (2 ^ (24 + k))))
    row (suc (suc t)) h = absurd (not-suc-le-zero (le_of_suc-le-suc (le_of_suc-le-suc h)))

-- ---- the register run backwards

odd_generator : (t : ℕ) → t < 2 → t * generator % 2 ≡ t
unfolding generator generator_powers polynomial
odd_generator zero h = refl
odd_generator (suc zero) h = refl
odd_generator (suc (suc t)) h = absurd (not-suc-le-zero (le_of_suc-le-suc (le_of_suc-le-suc h)))

pub generator-lt : (t : ℕ) → t < 2 → t * generator < 2 ^ 25
unfolding generator generator_powers polynomial
generator-lt zero h = lit< tt
generator-lt (suc zero) h = lit< tt
generator-lt (suc (suc t)) h = absurd (not-suc-le-zero (le_of_suc-le-suc (le_of_suc-le-suc h)))

-- it undoes one step
pub backward-double : (a : ℕ) → backward (remainder (a * 2)) ≡ remainder a
unfolding backward reduce
backward-double a =
    ap (λ (n : ℕ). bit_xor n (n % 2 * generator) / 2) (remainder-double a)
    ∙ ap (λ (l : ℕ). bit_xor (reduce (r * 2)) (l * generator) / 2) low
    ∙ ap (λ (n : ℕ). n / 2) (xor_cancel_r (r * 2) (t * generator))
    ∙ mul-div_cancel r two_pos
  where
    r : ℕ
    r = remainder a

    t : ℕ
    t = r * 2 / 2 ^ 24

    t-lt : t < 2
    t-lt = (div-lt_iff_lt-mul (lit< tt)).1 (omega (arith, remainder-lt a))

    low : reduce (r * 2) % 2 ≡ t
    low = xor_mod (r * 2) (t * generator) 1 ∙ ap₂ bit_xor (mul-mod_left r 2) (odd_generator t t-lt)

even_whole : (v : ℕ) → v % 2 ≡ 0 → v / 2 * 2 ≡ v
even_whole v e = omega (arith, div-add-mod' v 2)

pub backward_is : (r : ℕ) → r < 2 ^ 24 → remainder (backward r * 2) ≡ r
unfolding backward
backward_is r h =
    ap remainder (even_whole (bit_xor r (r % 2 * generator)) low)
    ∙ remainder-xor r (r % 2 * generator)
    ∙ ap₂ bit_xor (remainder_small r h) none ∙ xor_zero_r r
  where
    low : bit_xor r (r % 2 * generator) % 2 ≡ 0
    low = xor_mod r (r % 2 * generator) 1 ∙ ap (bit_xor (r % 2)) (odd_generator (r % 2) (mod-lt r two_pos)) ∙ xor_self (r % 2)

    none : remainder (r % 2 * generator) ≡ 0
    none =
        ap remainder (sym (product-digit 0 (r % 2) generator (mod-lt r two_pos) ∙ ap (λ (p : ℕ). bit_xor (p * 2) (r % 2 * generator)) (product-zero generator)))
        ∙ (multiple (0 * 2 + r % 2)).0

pub backward-lt : (r : ℕ) → r < 2 ^ 24 → backward r < 2 ^ 24
unfolding backward
backward-lt r h =
    (div-lt_iff_lt-mul two_pos).1 (xor_lt 25 r (r % 2 * generator) (omega arith) (generator-lt (r % 2) (mod-lt r two_pos)))

pub backward_unique : (w r : ℕ) → w < 2 ^ 24 → remainder (w * 2) ≡ r → w ≡ backward r
backward_unique w r h e = sym (ap backward (sym e) ∙ backward-double w ∙ remainder_small w h)

-- half of a sum is the sum of the halves
by-halves : (r : ℕ) → bit_xor (r / 2) (r % 2 * 0x1FFF409 / 2) ≡ backward r
unfolding backward
by-halves r = sym (xor_half r (r % 2 * 0x1FFF409)) ∙ ap (λ (g : ℕ). bit_xor r (r % 2 * g) / 2) (sym generator_is)

pub backward-odd : (r : ℕ) → r % 2 ≡ 1 → bit_xor (r / 2) 0xFFFA04 ≡ backward r
backward-odd r e = ap (λ (b : ℕ). bit_xor (r / 2) (b * 0x1FFF409 / 2)) (sym e) ∙ by-halves r

pub backward-even : (r : ℕ) → r % 2 ≡ 0 → r / 2 ≡ backward r
backward-even r e = sym (xor_zero_r (r / 2)) ∙ ap (λ (b : ℕ). bit_xor (r / 2) (b * 0x1FFF409 / 2)) (sym e) ∙ by-halves r

-- what `unshift_bit` needs
pub ruleset halves = (backward-odd, backward-even)

-- ---- no burst of 24 bits goes unnoticed, wherever it falls

backward-zero : backward 0 ≡ 0
unfolding backward generator generator_powers polynomial
backward-zero = refl

pub burst_noticed : (p s : ℕ) → p < 2 ^ 24 → remainder (p * 2 ^ s) ≡ 0 → p ≡ 0
burst_noticed p zero h e = sym (remainder_small p h) ∙ sym (ap remainder (mul-one p)) ∙ e
burst_noticed p (suc s) h e =
    burst_noticed p s h
    (sym (backward-double (p * 2 ^ s)) ∙ ap backward (sym (ap remainder (shl-suc p s)) ∙ e) ∙ backward-zero)

-- hence at most one pattern in a window has a given remainder
pub window_unique : (p q s : ℕ) → p < 2 ^ 24 → q < 2 ^ 24 → remainder (p * 2 ^ s) ≡ remainder (q * 2 ^ s) → p ≡ q
window_unique p q s hp hq e =
    xor-zero→eq p q
    (burst_noticed (bit_xor p q) s (xor_lt 24 p q hp hq)
    (ap remainder (xor-shl p q s) ∙ remainder-xor (p * 2 ^ s) (q * 2 ^ s)
    ∙ ap (λ (n : ℕ). bit_xor n (remainder (q * 2 ^ s))) e ∙ xor_self (remainder (q * 2 ^ s))))

-- ---- eight bits by the byte table

-- the register's top byte leaves, and with the byte that enters picks the entry; its lower 16 bits stay
pub shift_in_byte : (r b : ℕ) → r < 2 ^ 24 → b < 2 ^ 8 → bit_xor (r % 65536 * 256) (parity (bit_xor (r / 65536) b)) ≡ shift_in 8 r b
unfolding shift_in parity
shift_in_byte r b hr hb =
    let whole : r / 65536 * 2 ^ 24 + r % 65536 * 256 ≡ r * 2 ^ 8 = omega arith in
    ap (λ (n : ℕ). bit_xor n (remainder (bit_xor (r / 65536) b * 2 ^ 24))) (sym (remainder_small (r % 65536 * 256) (omega arith)))
    ∙ sym (remainder-xor (r % 65536 * 256) (bit_xor (r / 65536) b * 2 ^ 24))
    ∙ ap remainder
    (ap (bit_xor (r % 65536 * 256)) (xor-shl (r / 65536) b 24)
    ∙ sym (xor_assoc (r % 65536 * 256) (r / 65536 * 2 ^ 24) (b * 2 ^ 24))
    ∙ ap (λ (n : ℕ). bit_xor n (b * 2 ^ 24))
    (xor_comm (r % 65536 * 256) (r / 65536 * 2 ^ 24)
    ∙ xor_shifted (r / 65536) 24 (r % 65536 * 256) (omega arith)
    ∙ whole))

-- R of x^8·M from R of M: one step of the byte table with nothing entering
pub parity_byte_on : (m r : ℕ) → r ≡ parity m → bit_xor (r % 65536 * 256) (parity (r / 65536)) ≡ parity (m * 2 ^ 8)
parity_byte_on m r e =
    ap (λ (t : ℕ). bit_xor (r % 65536 * 256) (parity t)) (sym (xor_zero_r (r / 65536)))
    ∙ shift_in_byte r 0 (subst (λ (n : ℕ). n < 2 ^ 24) (sym e) (parity-lt m)) (lit< tt)
    ∙ ap (λ (n : ℕ). shift_in 8 n 0) e
    ∙ sym (parity_extend m 8 0 (lit< tt)) ∙ ap parity (add-zero (m * 2 ^ 8))
