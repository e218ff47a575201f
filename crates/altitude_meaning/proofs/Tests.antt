-- The patterns of the two codes, by computed tests over all of them: the pattern of each altitude has the bits that the rule
-- asks for, and each pattern is the one of its own altitude. And the Gray code in eight bits, both ways.
use mathlib.Core.Path.{◌≡◌, refl, ap₂}
use mathlib.Core.Bool.{Bool, not, ◌&&◌, ◌||◌}
use Prim.Native.Nat.{ℕ, ◌+◌, ◌*◌, ◌/◌, ◌%◌, ◌^◌, ◌<◌}
use native.Mathlib.Nat.{mod-lt}
use native.Mathlib.Omega.{arith}
use lib.Bits.{bit_xor}
use lib.Dec.{eqb, ltb, lit<}
use borrow.Author.Tests.{eqb-true, ltb-true, eq-eqb, lt-ltb}
use Rattle.outcome.proofs.Laws.{every, tested, when, both}
use Rattle.altitude_code.specs.Gray.{gray, gray_number}
use Rattle.altitude_code.specs.Codes.{binary, digit, M, Q, eleven_bits, gray_bits, c_bits, c_patterns, in_order, c_pattern}
use Rattle.altitude_code.specs.Altitudes.{place_in, code_by_25, placed, code_by_100}
use Rattle.altitude_meaning.specs.Meaning.{Hundred}

-- ---- the Gray code

-- 'the reflected Gray code of a number g' is g + g/2 without carries
pub gray-sum : (g : ℕ) → g < 2 ^ 8 → gray 8 g ≡ bit_xor g (g / 2)
unfolding every gray
gray-sum g h = eqb-true (gray 8 g) (bit_xor g (g / 2)) (tested 8 (λ g. eqb (gray 8 g) (bit_xor g (g / 2))) refl g h)

pub number-gray : (g : ℕ) → g < 2 ^ 8 → gray_number 8 (gray 8 g) ≡ g
unfolding every gray gray_number
number-gray g h = eqb-true (gray_number 8 (gray 8 g)) g (tested 8 (λ g. eqb (gray_number 8 (gray 8 g)) g) refl g h)

pub gray-number : (v : ℕ) → v < 2 ^ 8 → gray 8 (gray_number 8 v) ≡ v
unfolding every gray gray_number
gray-number v h = eqb-true (gray 8 (gray_number 8 v)) v (tested 8 (λ v. eqb (gray 8 (gray_number 8 v)) v) refl v h)

pub number_lt : (v : ℕ) → v < 2 ^ 8 → gray_number 8 v < 256
unfolding every gray_number
number_lt v h = ltb-true (gray_number 8 v) 256 (tested 8 (λ v. ltb (gray_number 8 v) 256) refl v h)

-- ---- the 25-foot code

is_by_25 : ℕ → Bool
is_by_25 n = let k = code_by_25 n in eqb (eleven_bits k) n && (eqb (M k) 0 && (eqb (Q k) 1 && ltb k 8192))

pub record Pattern25 (n : ℕ) : Type 0 where
  pub eleven : eleven_bits (code_by_25 n) ≡ n
  pub no_metric : M (code_by_25 n) ≡ 0
  pub step_25 : Q (code_by_25 n) ≡ 1
  pub small : code_by_25 n < 2 ^ 13

pub pattern_25 : (n : ℕ) → n < 2 ^ 11 → Pattern25 n
unfolding every is_by_25 code_by_25 eleven_bits binary digit
pattern_25 n h =
    let a = both _ _ (tested 11 is_by_25 refl n h) in
    let b = both _ _ a.1 in
    let c = both _ _ b.1 in
    record { eleven = eqb-true _ _ a.0; no_metric = eqb-true _ _ b.0; step_25 = eqb-true _ _ c.0; small = ltb-true _ _ c.1 }

pub only_25 : (k : ℕ) → k < 2 ^ 13 → M k ≡ 0 → Q k ≡ 1 → code_by_25 (eleven_bits k) ≡ k
unfolding every code_by_25 eleven_bits binary digit
only_25 k h m q =
    eqb-true _ _
    (when (eqb (M k) 0 && eqb (Q k) 1) (eqb (code_by_25 (eleven_bits k)) k)
    (tested 13 (λ k. not (eqb (M k) 0 && eqb (Q k) 1) || eqb (code_by_25 (eleven_bits k)) k) refl k h)
    (ap₂ ◌&&◌ (eq-eqb (M k) 0 m) (eq-eqb (Q k) 1 q)))

-- ---- the 100-foot code

is_by_100 : ℕ → Bool
is_by_100 t =
    let k = code_by_100 t in
    eqb (M k) 0 && (eqb (Q k) 0 && (eqb (gray_bits k) (gray 8 (t / 5)) && (eqb (c_bits k) (c_pattern (t / 5) (t % 5)) && ltb k 8192)))

-- 1280 altitudes are five to each of 256 numbers
fives : (t : ℕ) → t < 1280 → t / 5 < 256
fives t h = omega arith

pub pattern_100 : (t : ℕ) → t < 1280 → Hundred (code_by_100 t) (t / 5) (t % 5) × (code_by_100 t < 2 ^ 13)
unfolding every is_by_100 gray placed code_by_100 binary digit gray_bits c_bits c_pattern in_order
pattern_100 t h =
    let a = both _ _ (when (ltb t 1280) (is_by_100 t) (tested 11 (λ t. not (ltb t 1280) || is_by_100 t) refl t (omega arith)) (lt-ltb t 1280 h)) in
    let b = both _ _ a.1 in
    let c = both _ _ b.1 in
    let d = both _ _ c.1 in (
      record {
        eight = fives t h;
        five = mod-lt t (lit< tt);
        no_metric = eqb-true _ _ a.0;
        no_step_25 = eqb-true _ _ b.0;
        gray_code = eqb-true _ _ c.0;
        c_pattern = eqb-true _ _ d.0;
      },
      ltb-true _ _ d.1,
    )

-- the steps of a pattern of the code
steps_of : ℕ → ℕ
steps_of k = let g = gray_number 8 (gray_bits k) in 5 * g + in_order g (place_in (c_bits k) c_patterns)

is_of_100 : ℕ → Bool
is_of_100 k = eqb (M k) 0 && (eqb (Q k) 0 && ltb (place_in (c_bits k) c_patterns) 5)

pub only_100 : (k : ℕ) → k < 2 ^ 13 → M k ≡ 0 → Q k ≡ 0 → place_in (c_bits k) c_patterns < 5
    → code_by_100 (5 * gray_number 8 (gray_bits k) + in_order (gray_number 8 (gray_bits k)) (place_in (c_bits k) c_patterns)) ≡ k
unfolding every is_of_100 steps_of gray gray_number placed code_by_100 place_in binary digit gray_bits c_bits c_pattern in_order
only_100 k h m q p =
    eqb-true _ _
    (when (is_of_100 k) (eqb (code_by_100 (steps_of k)) k) (tested 13 (λ k. not (is_of_100 k) || eqb (code_by_100 (steps_of k)) k) refl k h)
    (ap₂ ◌&&◌ (eq-eqb (M k) 0 m) (ap₂ ◌&&◌ (eq-eqb (Q k) 0 q) (lt-ltb _ 5 p))))
