-- Two altitudes 100 feet apart: their patterns differ in one bit, by a computed test over all pairs.
use mathlib.Core.Path.{◌≡◌, refl, sym, ap, ap₂, ◌∙◌}
use mathlib.Core.Bool.{Bool, true, false, not, ◌||◌}
use mathlib.Core.Logic.{◌⊎◌, inl, inr}
use Prim.Native.Nat.{ℕ, zero, suc, ◌+◌, ◌*◌, ◌^◌, ◌<◌}
use native.Mathlib.Nat.{add-zero, one-mul}
use native.Mathlib.Omega.{arith}
use lib.Bits.{bit_xor}
use lib.Count.{ones_in, ones, ones_cat}
use lib.Pow.{pow_pos}
use lib.Dec.{eqb, ltb}
use borrow.Author.Differences.{ints}
use lib.IntN.{ℤ, pos, sub_ℕ, ◌+ℤ◌}
use borrow.Author.Tests.{eqb-true, lt-ltb}
use Rattle.std.specs.Prelude.{Some}
use Rattle.outcome.proofs.Laws.{never, or_cases, every, tested, when}
use Rattle.altitude_code.specs.Gray.{gray}
use Rattle.altitude_code.specs.Codes.{binary, digit, in_order, c_pattern}
use Rattle.altitude_code.specs.Altitudes.{placed, code_by_100, code_of, encoded_of}
use Rattle.altitude_code.specs.Counting.{above_lowest}
use Rattle.altitude_code.proofs.Laws.{above-feet, was_in_code, in_100, of_100, was_encoded}

-- the steps of an altitude in the 100-foot code
steps : (z : ℤ) (k : ℕ) → encoded_of z 100 ≡ Some k → (t : ℕ) × (t < 1280) × (z ≡ sub_ℕ (100 * t) 1200) × (k ≡ code_by_100 t)
steps z k e =
    let in-it = was_encoded z 100 k e in
    let t = of_100 z (was_in_code z 100 in-it.0) in
    (t.0, t.1, t.2, sym in-it.1 ∙ ap (λ (y : ℤ). code_of y 100) t.2 ∙ (in_100 t.0 t.1).1)

next-step : (a : ℕ) → sub_ℕ a 1200 +ℤ pos 100 ≡ sub_ℕ (a + 100) 1200
next-step a = grind (arith, ints)

-- one of the lowest w bits, alone
is_one_of : ℕ → ℕ → Bool
is_one_of zero x = false
is_one_of (suc w) x = eqb x (2 ^ w) || is_one_of w x

one_of : (w x : ℕ) → is_one_of w x ≡ true → ones x ≡ 1
unfolding is_one_of ones ones_in
one_of zero x e = absurd (never e refl)
one_of (suc w) x e = by (or_cases (eqb x (2 ^ w)) (is_one_of w x) e) (one_of w x)
  where
    power : ones (2 ^ w) ≡ 1
    power = ap ones (sym (ap (λ (y : ℕ). y + 0) (one-mul (2 ^ w)) ∙ add-zero (2 ^ w))) ∙ ones_cat w 1 0 (pow_pos w)

    by : (eqb x (2 ^ w) ≡ true) ⊎ (is_one_of w x ≡ true) → (is_one_of w x ≡ true → ones x ≡ 1) → ones x ≡ 1
    by (inl p) rest = ap ones (eqb-true x (2 ^ w) p) ∙ power
    by (inr p) rest = rest p

one_bit : (t : ℕ) → suc t < 1280 → ones (bit_xor (code_by_100 t) (code_by_100 (suc t))) ≡ 1
unfolding every is_one_of gray placed code_by_100 binary digit c_pattern in_order
one_bit t h =
    one_of 13 _
    (when (ltb (suc t) 1280) (is_one_of 13 (bit_xor (code_by_100 t) (code_by_100 (suc t))))
    (tested 11 (λ t. not (ltb (suc t) 1280) || is_one_of 13 (bit_xor (code_by_100 t) (code_by_100 (suc t)))) refl t (omega arith)) (lt-ltb (suc t) 1280 h))

pub neighbours : (z : ℤ) (j k : ℕ) → encoded_of z 100 ≡ Some j → encoded_of (z +ℤ pos 100) 100 ≡ Some k → ones (bit_xor j k) ≡ 1
neighbours z j k e f =
    let a = steps z j e in
    let b = steps (z +ℤ pos 100) k f in
    let above : Some (100 * b.0) ≡ Some (100 * a.0 + 100) =
    sym (above-feet (100 * b.0)) ∙ ap above_lowest (sym b.2 ∙ ap (λ (y : ℤ). y +ℤ pos 100) a.2 ∙ next-step (100 * a.0)) ∙ above-feet (100 * a.0 + 100) in
    let up : 100 * b.0 ≡ 100 * a.0 + 100 = cc in
    let next : b.0 ≡ suc a.0 = omega arith in
    let small : b.0 < 1280 = b.1 in
    ap₂ (λ (x y : ℕ). ones (bit_xor x y)) a.3 (b.3 ∙ ap code_by_100 next) ∙ one_bit a.0 (omega arith)
