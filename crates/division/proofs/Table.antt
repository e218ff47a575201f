-- A table's rule is one computed test over all its entries (the crate outcome's proofs/Testing.antt). The checker computes
-- remainders by `quick`, which is the long division of the definition without its quotient, with the generator as a literal,
-- and with no sum where there is nothing to take away.
use mathlib.Core.Path.{◌≡◌, refl, sym, ◌∙◌, ap, ap₂}
use mathlib.Core.List.{List, [], ◌∷◌}
use Prim.Native.Nat.{ℕ, zero, suc, ◌+◌, ◌-◌, ◌*◌, ◌/◌, ◌%◌, ◌^◌, ◌<◌}
use native.Mathlib.Nat.{zero-mul, zero-add, add-zero, add-suc, suc-add, le_of_suc-le-suc, not-suc-le-zero}
use lib.ListN.{get_or}
use lib.Bits.{bit_xor, xor_zero_r}
use Rattle.division.specs.Polynomial.{downwards}
use Rattle.division.specs.Division.{generator, reduce, divide, remainder, parity}
use Rattle.division.specs.Tables.{parities_from, byte_table, IsByteTable, IsRowTable}
use Rattle.division.specs.declared.byte_table.TheConstants.{TABLE}
use Rattle.division.specs.declared.rows.TheConstants.{ROWS}
use Rattle.outcome.proofs.Laws.{tabulate, tabulated}
use Rattle.division.proofs.Dividing.{generator_is, remainder-double}

-- `reduce` where q is the coefficient x^24 of v: most often there is nothing to add
unfoldable pub reduce_by : ℕ → ℕ → ℕ
reduce_by zero v = v
reduce_by (suc q) v = bit_xor v (suc q * 0x1FFF409)

reduce_by_is : (q v : ℕ) → reduce_by q v ≡ bit_xor v (q * generator)
unfolding reduce_by
reduce_by_is zero v = sym (ap (bit_xor v) (zero-mul generator) ∙ xor_zero_r v)
reduce_by_is (suc q) v = ap (λ (g : ℕ). bit_xor v (suc q * g)) (sym generator_is)

-- a remainder times x
unfoldable pub double : ℕ → ℕ
double r = reduce_by (r * 2 / 2 ^ 24) (r * 2)

pub double_is : (a : ℕ) → double (remainder a) ≡ remainder (a * 2)
unfolding double reduce
double_is a = reduce_by_is (remainder a * 2 / 2 ^ 24) (remainder a * 2) ∙ sym (remainder-double a)

unfoldable pub quick_down : ℕ → ℕ → ℕ
quick_down = downwards {A = ℕ} 0 (λ r n. let v = r * 2 + n % 2 in reduce_by (v / 2 ^ 24) v)

unfoldable pub quick : ℕ → ℕ
quick a = quick_down a a

quick_down_is : (b n : ℕ) → quick_down b n ≡ (downwards {A = ℕ × ℕ} (0, 0) (λ d n. let v = d.1 * 2 + n % 2 in (d.0 * 2 + v / 2 ^ 24, reduce v)) b n).1
unfolding quick_down downwards reduce
quick_down_is zero n = refl
quick_down_is (suc b) zero = refl
quick_down_is (suc b) (suc n) =
    ap (λ (r : ℕ). reduce_by ((r * 2 + suc n % 2) / 2 ^ 24) (r * 2 + suc n % 2)) (quick_down_is b (suc n / 2)) ∙ reduce_by_is _ _

pub quick_is : (a : ℕ) → quick a ≡ remainder a
unfolding quick remainder divide
quick_is a = quick_down_is a a

-- ---- the byte table

unfoldable pub quick_from : ℕ → ℕ → List ℕ
quick_from k zero = []
quick_from k (suc n) = quick (k * 2 ^ 24) ∷ quick_from (suc k) n

quick_from_lem : (n k : ℕ) → quick_from k n ≡ parities_from k n
unfolding quick_from parities_from parity
quick_from_lem zero k = refl
quick_from_lem (suc n) k = ap₂ (λ (r : ℕ) (l : List ℕ). r ∷ l) (quick_is (k * 2 ^ 24)) (quick_from_lem n (suc k))

pub quick_table : quick_from 0 256 ≡ byte_table
unfolding byte_table
quick_table = quick_from_lem 256 0

entry_from : (n k j : ℕ) → j < n → get_or (parities_from k n) j 0 ≡ parity (k + j)
unfolding parities_from
entry_from zero k j h = absurd (not-suc-le-zero h)
entry_from (suc n) k zero h = ap parity (sym (add-zero k))
entry_from (suc n) k (suc j) h = entry_from n (suc k) j (le_of_suc-le-suc h) ∙ ap parity (suc-add k j ∙ sym (add-suc k j))

pub byte_table_rule : (t : List ℕ) → t ≡ byte_table → IsByteTable t
unfolding IsByteTable byte_table
byte_table_rule t e k h = ap (λ (l : List ℕ). get_or l k 0) e ∙ entry_from 256 0 k h ∙ ap parity (zero-add k)

-- ---- the two tables of the code

pub table_is : TABLE ≡ byte_table
unfolding quick_from quick quick_down reduce_by downwards
table_is = quick_table

pub table_rule : IsByteTable TABLE
table_rule = byte_table_rule TABLE table_is

pub rows_rule : IsRowTable ROWS
unfolding IsRowTable tabulate quick quick_down reduce_by downwards
rows_rule j h = tabulated (λ (j : ℕ). quick (2 ^ (111 - j))) 88 j h ∙ quick_is (2 ^ (111 - j))
