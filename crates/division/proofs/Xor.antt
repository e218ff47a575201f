-- The exclusive or on numbers is the sum of polynomials: an abelian group in which every element is its own inverse,
-- and multiplication by x^k goes through it. `lib.Bits` has the digit-wise laws; associativity and what follows from
-- it are here.
use mathlib.Core.Path.{◌≡◌, refl, sym, ap, ap₂, ◌∙◌}
use Prim.Native.Nat.{ℕ, zero, suc, ◌+◌, ◌*◌, ◌/◌, ◌%◌, ◌^◌, ◌<◌}
use native.Mathlib.Nat.{le_of_suc-le-suc, not-suc-le-zero, mod-lt, zero-lt-suc, add-zero, zero-mul}
use lib.Arith.{bin_ind, digits_mod}
use lib.Pow.{pow_pos}
use lib.Bits.{bit_xor, differ, xor_step, xor_comm, xor_self, xor_zero_r, xor_block, xor_shr}

two_pos : zero < 2
two_pos = zero-lt-suc 1

differ_assoc : (x y z : ℕ) → x < 2 → y < 2 → z < 2 → differ (differ x y) z ≡ differ x (differ y z)
differ_assoc zero y z p q r = refl
differ_assoc (suc zero) zero z p q r = refl
differ_assoc (suc zero) (suc zero) zero p q r = refl
differ_assoc (suc zero) (suc zero) (suc zero) p q r = refl
differ_assoc (suc zero) (suc zero) (suc (suc z)) p q r =
    absurd (not-suc-le-zero (le_of_suc-le-suc (le_of_suc-le-suc r)))
differ_assoc (suc zero) (suc (suc y)) z p q r = absurd (not-suc-le-zero (le_of_suc-le-suc (le_of_suc-le-suc q)))
differ_assoc (suc (suc x)) y z p q r = absurd (not-suc-le-zero (le_of_suc-le-suc (le_of_suc-le-suc p)))

differ_lt : (x y : ℕ) → x < 2 → y < 2 → differ x y < 2
differ_lt zero y p q = q
differ_lt (suc zero) zero p q = p
differ_lt (suc zero) (suc zero) p q = two_pos
differ_lt (suc zero) (suc (suc y)) p q = absurd (not-suc-le-zero (le_of_suc-le-suc (le_of_suc-le-suc q)))
differ_lt (suc (suc x)) y p q = absurd (not-suc-le-zero (le_of_suc-le-suc (le_of_suc-le-suc p)))

pub xor_half : (a b : ℕ) → bit_xor a b / 2 ≡ bit_xor (a / 2) (b / 2)
xor_half a b = xor_shr a b 1

pub xor_low : (a b : ℕ) → bit_xor a b % 2 ≡ differ (a % 2) (b % 2)
xor_low a b =
    ap (λ (n : ℕ). n % 2) (xor_step a b)
    ∙ digits_mod (bit_xor (a / 2) (b / 2)) (differ_lt (a % 2) (b % 2) (mod-lt a two_pos) (mod-lt b two_pos))

pub xor_assoc : (a b c : ℕ) → bit_xor (bit_xor a b) c ≡ bit_xor a (bit_xor b c)
xor_assoc =
    bin_ind (λ (a : ℕ). (b c : ℕ) → bit_xor (bit_xor a b) c ≡ bit_xor a (bit_xor b c)) (λ b c. refl)
    (λ a ih b c.
    xor_step (bit_xor a b) c
    ∙ ap₂ (λ (h l : ℕ). bit_xor h (c / 2) * 2 + differ l (c % 2)) (xor_half a b) (xor_low a b)
    ∙ ap₂ (λ (h l : ℕ). h * 2 + l) (ih (b / 2) (c / 2))
    (differ_assoc (a % 2) (b % 2) (c % 2) (mod-lt a two_pos) (mod-lt b two_pos) (mod-lt c two_pos))
    ∙ ap₂ (λ (h l : ℕ). bit_xor (a / 2) h * 2 + differ (a % 2) l) (sym (xor_half b c)) (sym (xor_low b c))
    ∙ sym (xor_step a (bit_xor b c)))

pub xor_cancel : (a b : ℕ) → bit_xor a (bit_xor a b) ≡ b
xor_cancel a b = sym (xor_assoc a a b) ∙ ap (λ (n : ℕ). bit_xor n b) (xor_self a)

pub xor_cancel_r : (a b : ℕ) → bit_xor (bit_xor a b) b ≡ a
xor_cancel_r a b = xor_assoc a b b ∙ ap (bit_xor a) (xor_self b) ∙ xor_zero_r a

-- what is added on one side may be added on the other
pub xor_move : (a b c : ℕ) → bit_xor a b ≡ c → a ≡ bit_xor c b
xor_move a b c e = sym (xor_cancel_r a b) ∙ ap (λ (n : ℕ). bit_xor n b) e

pub xor-zero→eq : (a b : ℕ) → bit_xor a b ≡ 0 → a ≡ b
xor-zero→eq a b e = xor_move a b 0 e

pub xor-left_comm : (a b c : ℕ) → bit_xor a (bit_xor b c) ≡ bit_xor b (bit_xor a c)
xor-left_comm a b c = sym (xor_assoc a b c) ∙ ap (λ (n : ℕ). bit_xor n c) (xor_comm a b) ∙ xor_assoc b a c

-- four terms, the middle two exchanged
pub xor-middle : (a b c d : ℕ) → bit_xor (bit_xor a b) (bit_xor c d) ≡ bit_xor (bit_xor a c) (bit_xor b d)
xor-middle a b c d =
    xor_assoc a b (bit_xor c d) ∙ ap (bit_xor a) (xor-left_comm b c d) ∙ sym (xor_assoc a c (bit_xor b d))

-- a term that both sums have drops out
pub xor_common : (a b c : ℕ) → bit_xor (bit_xor a b) (bit_xor c b) ≡ bit_xor a c
xor_common a b c = xor-middle a b c b ∙ ap (bit_xor (bit_xor a c)) (xor_self b) ∙ xor_zero_r (bit_xor a c)

-- times x^k
pub xor-shl : (a b k : ℕ) → bit_xor a b * 2 ^ k ≡ bit_xor (a * 2 ^ k) (b * 2 ^ k)
xor-shl a b k =
    sym (add-zero (bit_xor a b * 2 ^ k)) ∙ sym (xor_block k a b 0 0 (pow_pos k) (pow_pos k))
    ∙ ap₂ bit_xor (add-zero (a * 2 ^ k)) (add-zero (b * 2 ^ k))

-- a coefficient times a polynomial
pub xor_bit_times : (s t g : ℕ) → s < 2 → t < 2 → bit_xor s t * g ≡ bit_xor (s * g) (t * g)
xor_bit_times zero t g p q = ap (λ (n : ℕ). bit_xor n (t * g)) (sym (zero-mul g))
xor_bit_times (suc zero) zero g p q = sym (ap (bit_xor (1 * g)) (zero-mul g) ∙ xor_zero_r (1 * g))
xor_bit_times (suc zero) (suc zero) g p q = zero-mul g ∙ sym (xor_self (1 * g))
xor_bit_times (suc zero) (suc (suc t)) g p q = absurd (not-suc-le-zero (le_of_suc-le-suc (le_of_suc-le-suc q)))
xor_bit_times (suc (suc s)) t g p q = absurd (not-suc-le-zero (le_of_suc-le-suc (le_of_suc-le-suc p)))
