-- The address that a transponder reads, and the overlay that an interrogation carries. The idea: the quotient of
-- x^24·U is linear, so a multiple of the generator adds nothing to its low 24 coefficients, and the overlay is made so
-- that the quotient of x^24·overlay is the address.
use mathlib.Core.Path.{◌≡◌, refl, sym, ap, ap₂, ◌∙◌}
use mathlib.Core.Logic.{◌↔◌}
use mathlib.Core.List.{List}
use lib.ListN.{length}
use Prim.Native.Nat.{ℕ, zero, suc, ◌+◌, ◌-◌, ◌*◌, ◌/◌, ◌%◌, ◌^◌, ◌≤◌, ◌<◌}
use native.Mathlib.Nat.{mod-lt, zero-lt-suc, add-zero, zero-mul, mul-one, mul-mod_left, mod-eq_of_lt}
use native.Mathlib.Omega.{arith}
use lib.Pow.{pow_pos, shr-shr, mod-mod-pow, field as cut, shl_lt, shr_mod, split, high, low}
use lib.Bits.{bit_xor, xor_zero_r, xor_mod, xor_shifted}
use Rattle.division.specs.Polynomial.{product}
use Rattle.division.specs.Division.{generator, quotient, remainder, parity, overlay, address_read, ReadsAs}
use Rattle.division.proofs.Xor.{xor-shl, xor_move}
use Rattle.division.proofs.Dividing.{quotient-xor, remainder-lt, remainder_small, remainder-xor, division_equation, division_unique, multiple, product-digit}
use Rattle.division.proofs.Shifting.{shl-suc}
use Rattle.division.proofs.Degrees.{product_lt, quotient-lt}
use Rattle.message.specs.Message.{number, Bytes, field, parity_field}
use Rattle.message.proofs.Laws.{number-message, parity_field-lt}

-- ---- a message is x^24·field + parity field

pub message-remainder : (m p : ℕ) → p < 2 ^ 24 → remainder (m * 2 ^ 24 + p) ≡ bit_xor (parity m) p
unfolding parity
message-remainder m p h =
    ap remainder (sym (xor_shifted m 24 p h)) ∙ remainder-xor (m * 2 ^ 24) p
    ∙ ap (bit_xor (remainder (m * 2 ^ 24))) (remainder_small p h)

-- R of the field plus the parity field is the remainder of the message
pub remainder-parts : (m : List ℕ) → 3 ≤ length m → Bytes m
    → bit_xor (parity (number (field m))) (number (parity_field m)) ≡ remainder (number m)
remainder-parts m l h =
    sym (message-remainder (number (field m)) (number (parity_field m)) (parity_field-lt m l h)) ∙ ap remainder (sym (number-message m l))

-- ---- the address read

product-shl : (q g k : ℕ) → product (q * 2 ^ k) g ≡ product q g * 2 ^ k
product-shl q g zero = ap (λ (n : ℕ). product n g) (mul-one q) ∙ sym (mul-one (product q g))
product-shl q g (suc k) =
    ap (λ (n : ℕ). product n g) (shl-suc q k ∙ sym (add-zero (q * 2 ^ k * 2)))
    ∙ product-digit (q * 2 ^ k) 0 g (zero-lt-suc 1)
    ∙ ap₂ (λ (p z : ℕ). bit_xor (p * 2) z) (product-shl q g k) (zero-mul g)
    ∙ xor_zero_r (product q g * 2 ^ k * 2) ∙ sym (shl-suc (product q g) k)

-- it depends on the remainder alone
pub address_read-remainder : (u : ℕ) → address_read u ≡ address_read (remainder u)
unfolding address_read
address_read-remainder u =
    ap (λ (n : ℕ). quotient (n * 2 ^ 24) % 2 ^ 24) (division_equation u)
    ∙ ap (λ (n : ℕ). quotient n % 2 ^ 24)
    (xor-shl (product (quotient u) generator) (remainder u) 24
    ∙ ap (λ (p : ℕ). bit_xor p (remainder u * 2 ^ 24)) (sym (product-shl (quotient u) generator 24)))
    ∙ ap (λ (n : ℕ). n % 2 ^ 24) (quotient-xor (product (quotient u * 2 ^ 24) generator) (remainder u * 2 ^ 24))
    ∙ xor_mod (quotient (product (quotient u * 2 ^ 24) generator)) (quotient (remainder u * 2 ^ 24)) 24
    ∙ ap (λ (n : ℕ). bit_xor n (quotient (remainder u * 2 ^ 24) % 2 ^ 24))
    (ap (λ (n : ℕ). n % 2 ^ 24) (multiple (quotient u * 2 ^ 24)).1 ∙ mul-mod_left (quotient u) (2 ^ 24))

pub address_read-lt : (u : ℕ) → address_read u < 2 ^ 24
unfolding address_read
address_read-lt u = mod-lt (quotient (u * 2 ^ 24)) (pow_pos 24)

-- of a word it is the whole quotient
pub address_read-word : (r : ℕ) → r < 2 ^ 24 → address_read r ≡ quotient (r * 2 ^ 24)
unfolding address_read
address_read-word r h = mod-eq_of_lt (quotient-lt 24 (r * 2 ^ 24) (shl_lt 24 24 h))

-- A is read from U exactly when x^24·U = (x^24·h + A)·G + r with r of degree below 24 (ATC-117, 3-6)
pub address_law : (u a : ℕ) → a < 2 ^ 24 → (address_read u ≡ a) ↔ ReadsAs u a
unfolding address_read ReadsAs
address_law u a h = (there, back)
  where
    q : ℕ
    q = quotient (u * 2 ^ 24)

    there : q % 2 ^ 24 ≡ a → ReadsAs u a
    there e = (
      q / 2 ^ 24,
      remainder (u * 2 ^ 24),
      remainder-lt (u * 2 ^ 24),
      division_equation (u * 2 ^ 24)
          ∙ ap (λ (n : ℕ). bit_xor (product n generator) (remainder (u * 2 ^ 24)))
          (sym (split q 24) ∙ ap (λ (l : ℕ). q / 2 ^ 24 * 2 ^ 24 + l) e),
    )

    back : ReadsAs u a → q % 2 ^ 24 ≡ a
    back w =
        ap (λ (n : ℕ). n % 2 ^ 24) (sym (division_unique (u * 2 ^ 24) (w.0 * 2 ^ 24 + a) w.1 w.2 w.3).0)
        ∙ low w.0 24 h

-- ---- the overlay and the reading are inverse to each other

pub read-overlay : (a : ℕ) → a < 2 ^ 24 → address_read (overlay a) ≡ a
unfolding overlay
read-overlay a h =
    address_read-word (p / 2 ^ 24 % 2 ^ 24) (mod-lt (p / 2 ^ 24) (pow_pos 24))
    ∙ sym (division_unique (p / 2 ^ 24 % 2 ^ 24 * 2 ^ 24) a (p % 2 ^ 24) (mod-lt p (pow_pos 24)) whole).0
  where
    p : ℕ
    p = product a generator

    whole : p / 2 ^ 24 % 2 ^ 24 * 2 ^ 24 ≡ bit_xor p (p % 2 ^ 24)
    whole =
        ap (λ (n : ℕ). n * 2 ^ 24) (shr_mod 24 24 (product_lt 24 a h))
        ∙ xor_move (p / 2 ^ 24 * 2 ^ 24) (p % 2 ^ 24) p
        (xor_shifted (p / 2 ^ 24) 24 (p % 2 ^ 24) (mod-lt p (pow_pos 24)) ∙ split p 24)

pub overlay-lt : (a : ℕ) → overlay a < 2 ^ 24
unfolding overlay
overlay-lt a = mod-lt (product a generator / 2 ^ 24) (pow_pos 24)

pub overlay_read : (r : ℕ) → r < 2 ^ 24 → overlay (address_read r) ≡ r
unfolding overlay
overlay_read r h =
    ap (λ (n : ℕ). product n generator / 2 ^ 24 % 2 ^ 24) (address_read-word r h)
    ∙ ap (λ (p : ℕ). p / 2 ^ 24 % 2 ^ 24)
    (xor_move (product (quotient (r * 2 ^ 24)) generator) (remainder (r * 2 ^ 24)) (r * 2 ^ 24) (sym (division_equation (r * 2 ^ 24)))
    ∙ xor_shifted r 24 (remainder (r * 2 ^ 24)) (remainder-lt (r * 2 ^ 24)))
    ∙ ap (λ (n : ℕ). n % 2 ^ 24) (high r 24 (remainder-lt (r * 2 ^ 24)))
    ∙ mod-eq_of_lt h

-- the remainder is the overlay of the address read
pub remainder_by_address : (u : ℕ) → remainder u ≡ overlay (address_read u)
remainder_by_address u = sym (ap overlay (address_read-remainder u) ∙ overlay_read (remainder u) (remainder-lt u))

-- ---- the definitions as equations

pub parity_is : (m : ℕ) → parity m ≡ remainder (m * 2 ^ 24)
unfolding parity
parity_is m = refl

-- coefficient j of the overlay is coefficient 24 + j of A·G
pub overlay-coefficient : (a j : ℕ) → j < 24 → overlay a / 2 ^ j % 2 ≡ product a generator / 2 ^ (24 + j) % 2
unfolding overlay
overlay-coefficient a j h =
    ap (λ (n : ℕ). n % 2) (ap (λ (k : ℕ). p / 2 ^ 24 % 2 ^ k / 2 ^ j) sum ∙ cut (p / 2 ^ 24) (24 - j) j)
    ∙ ap (λ (k : ℕ). p / 2 ^ 24 / 2 ^ j % 2 ^ k % 2) one ∙ mod-mod-pow (p / 2 ^ 24 / 2 ^ j) (23 - j) 1
    ∙ ap (λ (n : ℕ). n % 2) (shr-shr p 24 j)
  where
    p : ℕ
    p = product a generator

    sum : 24 ≡ 24 - j + j
    sum = omega arith

    one : 24 - j ≡ 23 - j + 1
    one = omega arith

-- what the call that reads the address from the remainder needs
pub ruleset by_remainder = (address_read-remainder, remainder-lt)
