-- The bits of a code: how large the numbers are that are read from them, and how the code gathers eleven of them in pieces.
use mathlib.Core.Path.{◌≡◌, refl, ap, ◌∙◌}
use Prim.Native.Nat.{ℕ, suc, ◌+◌, ◌*◌, ◌/◌, ◌%◌, ◌^◌, ◌<◌, ◌≤◌}
use native.Mathlib.Nat.{mod-lt, pow-suc}
use native.Mathlib.Omega.{arith}
use lib.Dec.{eqb, lit<}
use lib.ListN.{length, get_or, take}
use mathlib.Core.List.{List, [], ◌∷◌, ◌++◌, map}
use lib.Seq.{length-take-le}
use lib.Pow.{mod-pow-add, shr-shr}
use borrow.Author.Tests.{eqb-true}
use Rattle.std.proofs.lemmas.List.{take_more, map-append, length-append, length-map}
use Rattle.std.proofs.Math.Pow.{pow_mono}
use Rattle.outcome.proofs.Laws.{every, tested}
use Rattle.altitude_code.specs.Codes.{binary, digit, eleven_bits, gray_bits, c_bits}
use Rattle.altitude_code.specs.Altitudes.{code_by_25, placed}

-- ---- how large they are

pub bit_lt : (k i : ℕ) → digit k i < 2
unfolding digit
bit_lt k i = mod-lt (k / 2 ^ i) (lit< tt)

pub eleven_lt : (k : ℕ) → eleven_bits k < 2 ^ 11
unfolding eleven_bits binary digit
eleven_lt k = omega arith

pub gray-lt : (k : ℕ) → gray_bits k < 2 ^ 8
unfolding gray_bits binary digit
gray-lt k = omega arith

pub c_lt : (k : ℕ) → c_bits k < 2 ^ 3
unfolding c_bits binary digit
c_lt k = omega arith

-- a code has 13 bits
pub code_25_lt : (n : ℕ) → code_by_25 n < 2 ^ 13
unfolding code_by_25 binary digit
code_25_lt n = omega arith

pub placed-lt : (v c : ℕ) → placed v c < 2 ^ 13
unfolding placed binary digit
placed-lt v c = omega arith

-- ---- bits gathered one by one

-- one more bit behind the others
binary-more : (bs : List ℕ) (b : ℕ) → binary (bs ++ b ∷ []) ≡ binary bs * 2 + b
unfolding binary
binary-more [] b = omega arith
binary-more (x ∷ bs) b =
    let longer : length (bs ++ b ∷ []) ≡ suc (length bs) = omega (arith, length-append bs (b ∷ [])) in
    let power : 2 ^ length (bs ++ b ∷ []) ≡ 2 ^ length bs * 2 = ap (λ (n : ℕ). 2 ^ n) longer ∙ pow-suc 2 (length bs) in
    let rest : binary (bs ++ b ∷ []) ≡ binary bs * 2 + b = binary-more bs b in
    ap (λ (p : ℕ). x * p + binary (bs ++ b ∷ [])) power ∙ omega arith

pub gathered_more : (k : ℕ) (places : List ℕ) (i : ℕ) → i < length places
    → binary (map (digit k) (take (i + 1) places)) ≡ binary (map (digit k) (take i places)) * 2 + digit k (get_or places i 0)
gathered_more k places i h =
    ap (λ (l : List ℕ). binary (map (digit k) l)) (take_more places i 0 h)
    ∙ ap binary (map-append (digit k) (take i places) (get_or places i 0 ∷ []))
    ∙ binary-more (map (digit k) (take i places)) (digit k (get_or places i 0))

one_more : (b p r : ℕ) → b < 2 → r < p → b * p + r < p * 2
one_more b p r h l = grind arith

binary_lt : (k : ℕ) (places : List ℕ) → binary (map (digit k) places) < 2 ^ length places
unfolding binary
binary_lt k [] = lit< tt
binary_lt k (i ∷ places) =
    let same = ap (λ (n : ℕ). digit k i * 2 ^ n) (length-map places (digit k)) in
    let power : 2 ^ suc (length places) ≡ 2 ^ length places * 2 = pow-suc 2 (length places) in
    let less = one_more (digit k i) (2 ^ length places) (binary (map (digit k) places)) (bit_lt k i) (binary_lt k places) in
    omega arith

pub gathered_lt : (k : ℕ) (places : List ℕ) (i : ℕ) → i ≤ length places → binary (map (digit k) (take i places)) < 2 ^ i
gathered_lt k places i h = let size = length-take-le i places h in rw size at (binary_lt k (take i places))

-- what fits where a bit is gathered
pub ruleset gathering = (bit_lt, gathered_lt, gathered_more, pow_mono)

-- ---- the code of eleven bits

-- in three pieces
pub by_digits : (n : ℕ) → n < 2 ^ 11 → n / 32 * 128 + n / 16 % 2 * 32 + 16 + n % 16 ≡ code_by_25 n
unfolding every code_by_25 binary digit
by_digits n h =
    eqb-true _ _ (tested 11 (λ n. eqb (n / 32 * 128 + n / 16 % 2 * 32 + 16 + n % 16) (code_by_25 n)) refl n h)
