-- The generator of the Mode S code, and division by it.
use Rattle.std.specs.Prelude.{ℕ, ◌+◌, ◌*◌, ◌/◌, ◌%◌, ◌^◌, ◌<◌, ◌≡◌, List, [], ◌∷◌}
use Rattle.std.specs.Int.Bits.{bit_xor}
use Rattle.division.specs.Polynomial.{polynomial, downwards, product}

-- The powers of the generator, in the order of ATC-49 (source document 002, II-1.1), which ATC-117 (2-11) repeats from
-- the top. ATC-40 (source document 003) lists the powers of the reversed polynomial, since it counts in the order of
-- sending.
unfoldable pub generator_powers : List ℕ
generator_powers = 0 ∷ 3 ∷ 10 ∷ 12 ∷ 13 ∷ 14 ∷ 15 ∷ 16 ∷ 17 ∷ 18 ∷ 19 ∷ 20 ∷ 21 ∷ 22 ∷ 23 ∷ 24 ∷ []

unfoldable pub generator : ℕ
generator = polynomial generator_powers

-- One step of long division (ATC-117, 4.2): v has degree at most 24; where it has an x^24, the generator is taken away.
unfoldable pub reduce : ℕ → ℕ
reduce v = bit_xor v (v / 2 ^ 24 * generator)

-- Long division by the generator, one coefficient after the other: the quotient and the remainder. That this is
-- division is `division_equation` and `division_unique` (proofs/Dividing.antt).
unfoldable pub divide : ℕ → ℕ × ℕ
divide a = downwards (0, 0) (λ d n. let v = d.1 * 2 + n % 2 in (d.0 * 2 + v / 2 ^ 24, reduce v)) a a

unfoldable pub quotient : ℕ → ℕ
quotient a = (divide a).0

unfoldable pub remainder : ℕ → ℕ
remainder a = (divide a).1

-- A message carries the word W exactly when its remainder by G is W (document 01, 'Sensor'; ATC-117, 3.2).
abbrev pub Carries : ℕ → ℕ → Type 0
Carries u w = remainder u ≡ w

-- The register of document 01, k bits at a step: from the register r and the next k bits b, the remainder of
-- x^k·r + x^24·b. One bit at a step is k = 1; a step of the byte table is k = 8.
unfoldable pub shift_in : ℕ → ℕ → ℕ → ℕ
shift_in k r b = remainder (bit_xor (r * 2 ^ k) (b * 2 ^ 24))

-- The register run backwards: the word whose product with x has the remainder r (`backward_is` and `backward_unique`,
-- proofs/Shifting.antt; ATC-117, 3.2, 'reverse shift').
unfoldable pub backward : ℕ → ℕ
backward r = bit_xor r (r % 2 * generator) / 2

-- R of the field M: the remainder of x^24·M (ATC-117, 2-5 and 3-4).
unfoldable pub parity : ℕ → ℕ
parity m = remainder (m * 2 ^ 24)

-- The address function of an interrogation: the coefficients x^47 to x^24 of A·G (ATC-117, 3-1 and 3-2; Annex 10
-- Volume IV, the overlay of uplink formats).
unfoldable pub overlay : ℕ → ℕ
overlay a = product a generator / 2 ^ 24 % 2 ^ 24

-- The address read from the message U: the low 24 coefficients of the quotient of x^24·U (ATC-117, 3-5 and 3-6).
unfoldable pub address_read : ℕ → ℕ
address_read u = quotient (u * 2 ^ 24) % 2 ^ 24

-- The same as ATC-117 writes it (3-6): x^24·U = (x^24·h + A)·G + r for some h and some r of degree below 24. That A is
-- the address read exactly then is `address_law` (proofs/Reading.antt).
unfoldable pub ReadsAs : ℕ → ℕ → Type 0
ReadsAs u a = (h : ℕ) × (r : ℕ) × (r < 2 ^ 24) × (u * 2 ^ 24 ≡ bit_xor (product (h * 2 ^ 24 + a) generator) r)
