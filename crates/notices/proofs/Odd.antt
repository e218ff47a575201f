-- An odd number of hit bits is noticed: x + 1 divides the generator.
use mathlib.Core.Path.{◌≡◌, refl, ap, ◌∙◌}
use Prim.Native.Nat.{ℕ, zero, suc, ◌*◌, ◌/◌, ◌%◌, ◌<◌}
use native.Mathlib.Nat.{mod-lt, zero-mul, one-mul, le_of_suc-le-suc, not-suc-le-zero}
use native.Mathlib.Omega.{arith}
use lib.Arith.{bin_ind}
use lib.Dec.{lit<}
use lib.Count.{ones, ones_in, ones_cat, ones-ones}
use Rattle.division.specs.Polynomial.{product}
use Rattle.division.specs.Division.{generator, remainder, quotient}
use Rattle.division.proofs.Laws.{generator_is, division_equation, product-step, product-zero}
use Rattle.notices.proofs.Digits.{two_pos, ones_none, ones_double, ones_xor}

three : ones 0x409 ≡ 3
unfolding ones ones_in
three = refl

generator_even : (t : ℕ) → t < 2 → ones (t * generator) % 2 ≡ 0
generator_even zero h = ap (λ (n : ℕ). ones n % 2) (zero-mul generator) ∙ ap (λ (n : ℕ). n % 2) ones_none
generator_even (suc zero) h = ap (λ (n : ℕ). ones n % 2) (one-mul generator ∙ generator_is) ∙ omega (arith, ones_cat 12 0x1FFF 0x409 (lit< tt), ones-ones 13, three)
generator_even (suc (suc t)) h = absurd (not-suc-le-zero (le_of_suc-le-suc (le_of_suc-le-suc h)))

multiple_even : (q : ℕ) → ones (product q generator) % 2 ≡ 0
multiple_even =
    bin_ind (λ (q : ℕ). ones (product q generator) % 2 ≡ 0)
    (ap (λ (n : ℕ). ones n % 2) (product-zero generator) ∙ ap (λ (n : ℕ). n % 2) ones_none)
    (λ q ih.
    let p : ℕ = product (q / 2) generator in
    ap (λ (n : ℕ). ones n % 2) (product-step q generator)
    ∙ omega (arith, ones_xor (p * 2) (q % 2 * generator), ones_double p, ih, generator_even (q % 2) (mod-lt q two_pos)))

pub odd_kept : (d : ℕ) → ones d % 2 ≡ ones (remainder d) % 2
odd_kept d =
    let p : ℕ = product (quotient d) generator in
    ap (λ (n : ℕ). ones n % 2) (division_equation d)
    ∙ omega (arith, ones_xor p (remainder d), multiple_even (quotient d))

pub even_of_zero : (d : ℕ) → remainder d ≡ 0 → ones d % 2 ≡ 0
even_of_zero d e = odd_kept d ∙ ap (λ (r : ℕ). ones r % 2) e ∙ ap (λ (n : ℕ). n % 2) ones_none
