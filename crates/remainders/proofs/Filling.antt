-- The tables, filled from the last entry to the first: each entry is that of its byte in the table after it, one step of the byte
-- table further.
use mathlib.Core.Path.{◌≡◌, sym, ap, ap₂, ◌∙◌, subst}
use mathlib.Core.Logic.{◌⊎◌, inl, inr}
use mathlib.Core.List.{List, ◌++◌}
use Prim.Native.Nat.{ℕ, ◌+◌, ◌*◌, ◌-◌, ◌/◌, ◌%◌, ◌^◌, ◌<◌, ◌≤◌}
use native.Mathlib.Nat.{mul-one, eq-or-lt_of_le}
use native.Mathlib.Omega.{arith}
use lib.ListN.{length, get_or, set, take}
use lib.Seq.{get_or-set_same, get_or-set_other, length-take-le}
use Rattle.std.proofs.lemmas.List.{get_or-append_right, get_or_append_left}
use Rattle.division.specs.Tables.{IsByteTable}
use lib.Bits.{bit_xor}
use Rattle.division.specs.Division.{parity}
use Rattle.division.proofs.Laws.{shl-shl, parity-lt, parity_byte_on, byte_table_rule}
use Rattle.remainders.specs.Entries.{entry_at, AreTables, HasLast}

-- ---- the last table, written as a whole

pub last_written : (t bs rest : List ℕ) → length t ≡ 2816 → length bs ≡ 256 → IsByteTable bs → HasLast (take 2560 t ++ (bs ++ rest))
unfolding HasLast IsByteTable entry_at
last_written t bs rest l n h k below =
    get_or-append_right (take 2560 t) (bs ++ rest) 2560 (k + 2560) 0 (length-take-le 2560 t (omega arith)) (omega arith)
    ∙ ap (λ (i : ℕ). get_or (bs ++ rest) i 0) {x = k + 2560 - 2560} {y = k} (omega arith)
    ∙ get_or_append_left bs rest 0 k (omega arith)
    ∙ h k below ∙ ap parity (sym (mul-one k))

-- ---- the others, from the last to the first

unfoldable pub FilledFrom : ℕ → List ℕ → Type 0
FilledFrom i t = (j : ℕ) → i ≤ j → j < 2816 → get_or t j 0 ≡ entry_at (10 - j / 256) (j % 256)

pub filled_last : (t : List ℕ) → HasLast t → FilledFrom 2560 t
unfolding FilledFrom HasLast
filled_last t h j from below =
    let there : j - 2560 + 2560 ≡ j = omega arith in
    ap (λ (i : ℕ). get_or t i 0) (sym there) ∙ h (j - 2560) (omega arith)
    ∙ ap₂ entry_at {x = 0} {y = 10 - j / 256} {u = j - 2560} {v = j % 256} (omega arith) (omega arith)

pub filled-all : (t : List ℕ) (i : ℕ) → i ≤ 0 → FilledFrom i t → AreTables t
unfolding FilledFrom AreTables
filled-all t i z f j h = f j (omega arith) h

-- the entry in the table after it, one step further
next-entry : (t : List ℕ) (i : ℕ) → i < 2560 → FilledFrom (i + 1) t
    → bit_xor (get_or t (i + 256) 0 % 65536 * 256) (get_or t (get_or t (i + 256) 0 / 65536 % 256 + 2560) 0) ≡ entry_at (10 - i / 256) (i % 256)
unfolding FilledFrom entry_at
next-entry t i h f =
    ap (bit_xor (r % 65536 * 256)) (f (r / 65536 % 256 + 2560) (omega arith) (omega arith) ∙ picked)
    ∙ parity_byte_on ((i + 256) % 256 * 2 ^ (8 * (10 - (i + 256) / 256))) r before
    ∙ ap parity
    (shl-shl ((i + 256) % 256) (8 * (10 - (i + 256) / 256)) 8
    ∙ ap₂ (λ (b e : ℕ). b * 2 ^ e) {x = (i + 256) % 256} {y = i % 256} {u = 8 * (10 - (i + 256) / 256) + 8} {v = 8 * (10 - i / 256)} (omega arith) (omega arith))
  where
    r : ℕ
    r = get_or t (i + 256) 0

    before : r ≡ parity ((i + 256) % 256 * 2 ^ (8 * (10 - (i + 256) / 256)))
    before = f (i + 256) (omega arith) (omega arith)

    small : r < 2 ^ 24
    small = subst (λ (n : ℕ). n < 2 ^ 24) (sym before) (parity-lt _)

    picked : parity ((r / 65536 % 256 + 2560) % 256 * 2 ^ (8 * (10 - (r / 65536 % 256 + 2560) / 256))) ≡ parity (r / 65536)
    picked =
        ap₂ (λ (b e : ℕ). parity (b * 2 ^ e)) {x = (r / 65536 % 256 + 2560) % 256} {y = r / 65536} {u = 8 * (10 - (r / 65536 % 256 + 2560) / 256)} {v = 0} (omega (arith, small)) (omega arith)
        ∙ ap parity (mul-one (r / 65536))

pub filled_next : (t : List ℕ) (i r v : ℕ) → length t ≡ 2816 → i < 2560 → r ≡ get_or t (i + 256) 0
    → v ≡ bit_xor (r % 65536 * 256) (get_or t (r / 65536 % 256 + 2560) 0) → FilledFrom (i + 1) t → FilledFrom i (set t i v)
unfolding FilledFrom
filled_next t i r v l h er ev f j from below = by (eq-or-lt_of_le from)
  where
    value : v ≡ entry_at (10 - i / 256) (i % 256)
    value = ev ∙ ap (λ (n : ℕ). bit_xor (n % 65536 * 256) (get_or t (n / 65536 % 256 + 2560) 0)) er ∙ next-entry t i h f

    by : (i ≡ j) ⊎ (i < j) → get_or (set t i v) j 0 ≡ entry_at (10 - j / 256) (j % 256)
    by (inl same) =
        ap (λ (k : ℕ). get_or (set t i v) k 0) (sym same) ∙ get_or-set_same t i v 0 (omega arith) ∙ value
        ∙ ap (λ (k : ℕ). entry_at (10 - k / 256) (k % 256)) same
    by (inr above) = get_or-set_other t i j v 0 (λ q. omega arith) ∙ f j (omega arith) below

pub ruleset filled = (filled_last, filled_next, filled-all)

pub ruleset written = (last_written, byte_table_rule)
