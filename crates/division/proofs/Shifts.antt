-- The overlay and the address read as sums of shifts.
--
-- Both are linear in the word, so a formula is right where it is right on the 24 powers of x; and the address read is the
-- word whose overlay it is read from, so its formula need only undo the overlay's.
use mathlib.Core.Path.{◌≡◌, refl, sym, ap, ◌∙◌}
use Prim.Native.Nat.{ℕ, ◌/◌, ◌%◌, ◌^◌, ◌<◌}
use native.Mathlib.Omega.{arith}
use lib.ListN.{get_or}
use lib.Bits.{bit_xor, xor_lt, xor_shr, xor_mod}
use Rattle.outcome.proofs.Laws.{tabulate, tabulated}
use Rattle.division.specs.Polynomial.{product, downwards, polynomial}
use Rattle.division.specs.Division.{generator, generator_powers, overlay, address_read}
use Rattle.division.proofs.Dividing.{product-xor}
use Rattle.division.proofs.Linear.{Linear, linear_itself, linear_sum, linear_shr, linear_agree}
use Rattle.division.proofs.Reading.{read-overlay}

-- two functions with one list of values are the same below its length
same-listed : (f g : ℕ → ℕ) (n : ℕ) → tabulate f 0 n ≡ tabulate g 0 n → (k : ℕ) → k < n → f k ≡ g k
same-listed f g n e k h = sym (tabulated f n k h) ∙ ap (λ l. get_or l k 0) e ∙ tabulated g n k h

-- ---- the overlay: shifts by 0 to 12, by 14 and by 21

unfoldable pub two : ℕ → ℕ
two a = bit_xor a (a / 0x2)

unfoldable pub four : ℕ → ℕ
four a = bit_xor (two a) (two a / 0x4)

unfoldable pub eight : ℕ → ℕ
eight a = bit_xor (four a) (four a / 0x10)

unfoldable pub overlay_shifts : ℕ → ℕ
overlay_shifts a = bit_xor (bit_xor (eight a) (four a / 0x100)) (bit_xor (bit_xor (a / 0x1000) (a / 0x4000)) (a / 0x200000))

shift : (k : ℕ) → Linear (λ a. a / 2 ^ k)
shift k = linear_shr (λ a. a) k linear_itself

two_linear : Linear two
unfolding two
two_linear = linear_sum (λ a. a) (λ a. a / 2 ^ 1) linear_itself (shift 1)

four_linear : Linear four
unfolding four
four_linear = linear_sum two (λ a. two a / 2 ^ 2) two_linear (linear_shr two 2 two_linear)

eight_linear : Linear eight
unfolding eight
eight_linear = linear_sum four (λ a. four a / 2 ^ 4) four_linear (linear_shr four 4 four_linear)

shifts_linear : Linear overlay_shifts
unfolding overlay_shifts
shifts_linear =
    linear_sum (λ a. bit_xor (eight a) (four a / 2 ^ 8)) (λ a. bit_xor (bit_xor (a / 2 ^ 12) (a / 2 ^ 14)) (a / 2 ^ 21))
    (linear_sum eight (λ a. four a / 2 ^ 8) eight_linear (linear_shr four 8 four_linear))
    (linear_sum (λ a. bit_xor (a / 2 ^ 12) (a / 2 ^ 14)) (λ a. a / 2 ^ 21)
    (linear_sum (λ a. a / 2 ^ 12) (λ a. a / 2 ^ 14) (shift 12) (shift 14)) (shift 21))

overlay_linear : Linear overlay
unfolding overlay
overlay_linear a b =
    ap (λ (p : ℕ). p / 2 ^ 24 % 2 ^ 24) (product-xor a b generator)
    ∙ ap (λ (p : ℕ). p % 2 ^ 24) (xor_shr (product a generator) (product b generator) 24)
    ∙ xor_mod (product a generator / 2 ^ 24) (product b generator / 2 ^ 24) 24

overlay-powers : tabulate (λ k. overlay_shifts (2 ^ k)) 0 24 ≡ tabulate (λ k. overlay (2 ^ k)) 0 24
unfolding tabulate overlay_shifts eight four two overlay product downwards generator generator_powers polynomial
overlay-powers = refl

pub overlay_by_shifts : (a : ℕ) → a < 2 ^ 24 → overlay_shifts a ≡ overlay a
overlay_by_shifts =
    linear_agree overlay_shifts overlay shifts_linear overlay_linear 24
    (same-listed (λ k. overlay_shifts (2 ^ k)) (λ k. overlay (2 ^ k)) 24 overlay-powers)

-- ---- the address read: shifts by 0, 1, 13, 16, 21 and 23

unfoldable pub address_shifts : ℕ → ℕ
address_shifts r = bit_xor (bit_xor (bit_xor r (r / 0x2)) (bit_xor (r / 0x2000) (r / 0x10000))) (bit_xor (r / 0x200000) (r / 0x800000))

address_linear : Linear address_shifts
unfolding address_shifts
address_linear =
    linear_sum (λ r. bit_xor (bit_xor r (r / 2 ^ 1)) (bit_xor (r / 2 ^ 13) (r / 2 ^ 16))) (λ r. bit_xor (r / 2 ^ 21) (r / 2 ^ 23))
    (linear_sum (λ r. bit_xor r (r / 2 ^ 1)) (λ r. bit_xor (r / 2 ^ 13) (r / 2 ^ 16))
    (linear_sum (λ r. r) (λ r. r / 2 ^ 1) linear_itself (shift 1))
    (linear_sum (λ r. r / 2 ^ 13) (λ r. r / 2 ^ 16) (shift 13) (shift 16)))
    (linear_sum (λ r. r / 2 ^ 21) (λ r. r / 2 ^ 23) (shift 21) (shift 23))

address_shifts_lt : (r : ℕ) → r < 2 ^ 24 → address_shifts r < 2 ^ 24
unfolding address_shifts
address_shifts_lt r h =
    xor_lt 24 (bit_xor (bit_xor r (r / 0x2)) (bit_xor (r / 0x2000) (r / 0x10000))) (bit_xor (r / 0x200000) (r / 0x800000))
    (xor_lt 24 (bit_xor r (r / 0x2)) (bit_xor (r / 0x2000) (r / 0x10000))
    (xor_lt 24 r (r / 0x2) h (omega arith))
    (xor_lt 24 (r / 0x2000) (r / 0x10000) (omega arith) (omega arith)))
    (xor_lt 24 (r / 0x200000) (r / 0x800000) (omega arith) (omega arith))

-- they undo the overlay's
undone_powers : tabulate (λ k. overlay_shifts (address_shifts (2 ^ k))) 0 24 ≡ tabulate (λ k. 2 ^ k) 0 24
unfolding tabulate overlay_shifts eight four two address_shifts
undone_powers = refl

undone : (r : ℕ) → r < 2 ^ 24 → overlay_shifts (address_shifts r) ≡ r
undone =
    linear_agree (λ r. overlay_shifts (address_shifts r)) (λ r. r)
    (λ a b. ap overlay_shifts (address_linear a b) ∙ shifts_linear (address_shifts a) (address_shifts b)) linear_itself 24
    (same-listed (λ k. overlay_shifts (address_shifts (2 ^ k))) (λ k. 2 ^ k) 24 undone_powers)

pub address_by_shifts : (r : ℕ) → r < 2 ^ 24 → address_shifts r ≡ address_read r
address_by_shifts r h =
    let l : address_shifts r < 2 ^ 24 = address_shifts_lt r h in
    sym (read-overlay (address_shifts r) l) ∙ ap address_read (sym (overlay_by_shifts (address_shifts r) l) ∙ undone r h)
