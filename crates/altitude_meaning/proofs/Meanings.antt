-- The definitions that compute say what Point 1 says, case by case, and nothing else: of a code, and of an altitude's code.
use mathlib.Core.Path.{◌≡◌, refl, sym, ap, ap₂, ◌∙◌, subst}
use mathlib.Core.Bool.{Bool, true, false}
use mathlib.Core.Logic.{◌⊎◌, inl, inr}
use Prim.Native.Nat.{ℕ, zero, suc, ◌+◌, ◌*◌, ◌/◌, ◌%◌, ◌^◌, ◌<◌}
use native.Mathlib.Nat.{mod-eq_of_lt, zero-div, lt_irrefl, lt_of_le_of_lt}
use native.Mathlib.Omega.{arith}
use lib.Dec.{eqb, ltb}
use lib.IntN.{ℤ, sub_ℕ}
use borrow.Author.Tests.{eqb-true, eqb-false, ltb-true, ltb-false}
use Rattle.std.specs.Prelude.{Some}
use Rattle.altitude_code.specs.Gray.{gray_number}
use Rattle.altitude_code.specs.Codes.{digit, binary, M, Q, eleven_bits, gray_bits, c_bits, c_patterns, in_order}
use Rattle.altitude_code.specs.Altitudes.{feet_by_25, feet_by_100, place_in, code_by_25, code_by_100, decoded_by_100, decoded_of, code_of, encoded_of}
use Rattle.altitude_meaning.specs.Meaning.{Hundred, By25, By100, Means, Encodes}
use Rattle.altitude_code.specs.declared.Decoded.{Decoded}
use Rattle.altitude_code.specs.declared.Decoded.TheVariants.{Feet, NoAltitude, Metric, Illegal}
use Rattle.altitude_meaning.proofs.Tests.{number-gray, gray-number, number_lt, pattern_25, only_25, pattern_100, only_100}
use Rattle.altitude_code.proofs.Laws.{bit_lt, eleven_lt, gray-lt, c_lt, in_order_lt, in_order_twice, pattern-place, place-pattern, InCode, was_in_code, in_25, of_25, feet_100, in_100, of_100, encoded_in, was_encoded, illegal, legal, decoded-none, decoded-metric, decoded-25, decoded-100}

-- ---- the rule of the 100-foot code

-- a pattern whose C1 C2 C4 are in the list is one of the code
hundred : (k : ℕ) → M k ≡ 0 → Q k ≡ 0 → place_in (c_bits k) c_patterns < 5
    → Hundred k (gray_number 8 (gray_bits k)) (in_order (gray_number 8 (gray_bits k)) (place_in (c_bits k) c_patterns))
hundred k m q p =
    record {
      eight = number_lt (gray_bits k) (gray-lt k);
      five = in_order_lt _ _ p;
      no_metric = m;
      no_step_25 = q;
      gray_code = sym (gray-number (gray_bits k) (gray-lt k));
      c_pattern = place-pattern _ (c_bits k) (c_lt k) p;
    }

-- and has these g and j alone
module _ (k g j : ℕ) (h : Hundred k g j) where
  same-g : gray_number 8 (gray_bits k) ≡ g
  same-g = ap (gray_number 8) h.gray_code ∙ number-gray g h.eight

  same_place : place_in (c_bits k) c_patterns ≡ in_order g j
  same_place = ap (λ (c : ℕ). place_in c c_patterns) h.c_pattern ∙ pattern-place g j h.five

  has-place : place_in (c_bits k) c_patterns < 5
  has-place = subst (λ (p : ℕ). p < 5) (sym same_place) (in_order_lt g j h.five)

  same-feet : feet_by_100 (gray_number 8 (gray_bits k)) (in_order (gray_number 8 (gray_bits k)) (place_in (c_bits k) c_patterns)) ≡ feet_by_100 g j
  same-feet =
      ap₂ (λ (x p : ℕ). feet_by_100 x (in_order x p)) same-g same_place ∙ ap (feet_by_100 g) (in_order_twice g j h.five)

  pub only-hundred : k < 2 ^ 13 → code_by_100 (5 * g + j) ≡ k
  only-hundred l =
      sym (ap₂ (λ (x p : ℕ). code_by_100 (5 * x + in_order x p)) same-g same_place ∙ ap (λ (i : ℕ). code_by_100 (5 * g + i)) (in_order_twice g j h.five))
      ∙ only_100 k l h.no_metric h.no_step_25 has-place

  -- all zeros is no pattern of the code
  hundred-not-zero : k ≡ 0 → ⊥
  unfolding place_in c_bits binary digit
  hundred-not-zero e = zeros (subst (λ (x : ℕ). place_in (c_bits x) c_patterns < 5) e has-place)
    where
      zeros : place_in (c_bits 0) c_patterns < 5 → ⊥
      zeros l = omega arith

-- ---- what a code means

zero-or-one : (k i : ℕ) → (digit k i ≡ 1 → ⊥) → digit k i ≡ 0
zero-or-one k i n = let l = bit_lt k i in by (digit k i) refl
  where
    by : (d : ℕ) → digit k i ≡ d → digit k i ≡ 0
    by zero e = e
    by (suc zero) e = absurd (n e)
    by (suc (suc d)) e = absurd (let l = bit_lt k i in omega arith)

not-one : (k i : ℕ) → digit k i ≡ 0 → digit k i ≡ 1 → ⊥
not-one k i a b = omega arith

module _ (k : ℕ) (small : k < 2 ^ 13) where
  same : k % 2 ^ 13 ≡ k
  same = mod-eq_of_lt small

  -- all zeros have no 1
  bit-not-zero : (i : ℕ) → digit k i ≡ 1 → k % 2 ^ 13 ≡ 0 → ⊥
  unfolding digit
  bit-not-zero i e z = zeros i (subst (λ (x : ℕ). digit x i ≡ 1) (sym same ∙ z) e)
    where
      zeros : (i : ℕ) → digit 0 i ≡ 1 → ⊥
      zeros i e = omega (arith, ap (λ (x : ℕ). x % 2) (zero-div (2 ^ i)))

  means-hundred : (k % 2 ^ 13 ≡ 0 → ⊥) → M k ≡ 0 → Q k ≡ 0 → Means k (decoded_by_100 (gray_number 8 (gray_bits k)) (place_in (c_bits k) c_patterns))
  unfolding Means By100
  means-hundred z m q = by (ltb (place_in (c_bits k) c_patterns) 5) refl
    where
      g : ℕ
      g = gray_number 8 (gray_bits k)

      p : ℕ
      p = place_in (c_bits k) c_patterns

      by : (t : Bool) → ltb p 5 ≡ t → Means k (decoded_by_100 g p)
      by true e =
          let l = ltb-true _ _ e in
          subst (Means k) (legal g p l) (inr (g, in_order g p, hundred k m q l, refl))
      by false e =
          let l = ltb-false _ _ e in
          subst (Means k) (illegal g p l) ((λ x. z (same ∙ x)), m, q, λ a j h. lt_irrefl 5 (lt_of_le_of_lt l (has-place k a j h)))

  pub means : Means k (decoded_of k)
  unfolding Means By25
  means = by (eqb (k % 2 ^ 13) 0) refl (eqb (M k) 1) refl (eqb (Q k) 1) refl
    where
      by : (x : Bool) → eqb (k % 2 ^ 13) 0 ≡ x → (y : Bool) → eqb (M k) 1 ≡ y → (w : Bool) → eqb (Q k) 1 ≡ w → Means k (decoded_of k)
      by true e y f w h = let z = eqb-true _ _ e in subst (Means k) (decoded-none k z) (sym same ∙ z)
      by false e true f w h = subst (Means k) (decoded-metric k (eqb-false _ _ e) (eqb-true _ _ f)) (eqb-true _ _ f)
      by false e false f true h =
          subst (Means k) (decoded-25 k (eqb-false _ _ e) (eqb-false _ _ f) (eqb-true _ _ h))
          (inl (zero-or-one k 6 (eqb-false _ _ f), eqb-true _ _ h, refl))
      by false e false f false h =
          subst (Means k) (decoded-100 k (eqb-false _ _ e) (eqb-false _ _ f) (eqb-false _ _ h))
          (means-hundred (eqb-false _ _ e) (zero-or-one k 6 (eqb-false _ _ f)) (zero-or-one k 4 (eqb-false _ _ h)))

  pub means-only : (d : Decoded) → Means k d → d ≡ decoded_of k
  unfolding Means By25 By100
  means-only NoAltitude e = decoded-none k (same ∙ e)
  means-only Metric e = decoded-metric k (bit-not-zero 6 e) e
  means-only (Feet z) (inl h) =
      ap Feet h.2 ∙ decoded-25 k (bit-not-zero 4 h.1) (not-one k 6 h.0) h.1
  means-only (Feet z) (inr h) =
      let r = h.2 in
      ap Feet (h.3 ∙ sym (same-feet k h.0 h.1 r)) ∙ legal _ _ (has-place k h.0 h.1 r)
      ∙ decoded-100 k (λ x. hundred-not-zero k h.0 h.1 r (sym same ∙ x)) (not-one k 6 r.no_metric) (not-one k 4 r.no_step_25)
  means-only Illegal h = by (ltb (place_in (c_bits k) c_patterns) 5) refl
    where
      by : (t : Bool) → ltb (place_in (c_bits k) c_patterns) 5 ≡ t → Illegal ≡ decoded_of k
      by true e = absurd (h.3 _ _ (hundred k h.1 h.2 (ltb-true _ _ e)))
      by false e =
          illegal _ _ (ltb-false _ _ e) ∙ decoded-100 k (λ x. h.0 (sym same ∙ x)) (not-one k 6 h.1) (not-one k 4 h.2)

-- ---- the code of an altitude

pub encodes : (z : ℤ) (s k : ℕ) → encoded_of z s ≡ Some k → (k < 2 ^ 13) × Encodes z s k
unfolding Encodes By25 By100
encodes z s k e =
    let in-it = was_encoded z s k e in
    let c = was_in_code z s in-it.0 in
    subst (λ (x : ℕ). (x < 2 ^ 13) × Encodes z s x) in-it.1 (by c c.step)
  where
    by : InCode z s → (s ≡ 25) ⊎ (s ≡ 100) → (code_of z s < 2 ^ 13) × Encodes z s (code_of z s)
    by c (inl p) =
        let n = of_25 z (subst (InCode z) p c) in
        let is : code_of z s ≡ code_by_25 n.0 = ap₂ code_of n.2 p ∙ (in_25 n.0 n.1).1 in
        let pattern = pattern_25 n.0 n.1 in
        subst (λ (x : ℕ). (x < 2 ^ 13) × Encodes z s x) (sym is)
        (pattern.small, inl (p, (pattern.no_metric, pattern.step_25, n.2 ∙ ap feet_by_25 (sym pattern.eleven))))
    by c (inr p) =
        let t = of_100 z (subst (InCode z) p c) in
        let is : code_of z s ≡ code_by_100 t.0 = ap₂ code_of t.2 p ∙ (in_100 t.0 t.1).1 in
        let pattern = pattern_100 t.0 t.1 in
        let five : t.0 ≡ 5 * (t.0 / 5) + t.0 % 5 = omega arith in
        subst (λ (x : ℕ). (x < 2 ^ 13) × Encodes z s x) (sym is)
        (pattern.1, inr (p, (t.0 / 5, t.0 % 5, pattern.0, t.2 ∙ ap (λ (x : ℕ). sub_ℕ (100 * x) 1200) five ∙ sym (feet_100 (t.0 / 5) (t.0 % 5)))))

pub encodes_only : (z : ℤ) (s k : ℕ) → k < 2 ^ 13 → Encodes z s k → encoded_of z s ≡ Some k
unfolding Encodes By25 By100
encodes_only z s k l (inl h) =
    let n : eleven_bits k < 2 ^ 11 = eleven_lt k in
    let i = in_25 (eleven_bits k) n in
    ap₂ encoded_of h.1.2 h.0 ∙ encoded_in (feet_by_25 (eleven_bits k)) 25 i.0 ∙ ap Some (i.1 ∙ only_25 k l h.1.0 h.1.1)
encodes_only z s k l (inr h) =
    let g : ℕ = h.1.0 in
    let j : ℕ = h.1.1 in
    let r : Hundred k g j = h.1.2 in
    let hg : g < 256 = r.eight in
    let hj : j < 5 = r.five in
    let i = in_100 (5 * g + j) (omega arith) in
    ap₂ encoded_of (h.1.3 ∙ feet_100 g j) h.0 ∙ encoded_in (sub_ℕ (100 * (5 * g + j)) 1200) 100 i.0 ∙ ap Some (i.1 ∙ only-hundred k g j r l)
