-- 'Beats' as an order. The idea: it compares times and the numbers of grades, so each law is one of numbers.
use mathlib.Core.Path.{◌≡◌, refl, sym, ap, ◌∙◌}
use mathlib.Core.Bool.{Bool, true, false, ◌&&◌, ◌||◌}
use mathlib.Core.Logic.{◌⊎◌, inl, inr}
use Prim.Native.Nat.{ℕ, ◌<◌}
use native.Mathlib.Omega.{arith}
use lib.Dec.{eqb, ltb}
use borrow.Author.Tests.{eqb-true, eq-eqb, ltb-true, ltb-false, lt-ltb}
use Rattle.outcome.proofs.Laws.{never}
use Rattle.rollcall_table.specs.declared.Grade.{Grade}
use Rattle.rollcall_table.specs.declared.Grade.TheVariants.{Clean, Sole, Several}
use Rattle.rollcall_table.specs.Standing.{grade_number, beats}

-- ---- by numbers

module _ (t : ℕ) (g : Grade) (u : ℕ) (h : Grade) where
  pub beats-is : beats t g u h ≡ true → (u < t) ⊎ ((t ≡ u) × (grade_number g < grade_number h))
  unfolding beats
  beats-is e = by (ltb u t) refl (eqb t u) refl (ltb (grade_number g) (grade_number h)) refl e
    where
      by : (a : Bool) → ltb u t ≡ a → (b : Bool) → eqb t u ≡ b → (c : Bool) → ltb (grade_number g) (grade_number h) ≡ c → (a || (b && c)) ≡ true → (u < t) ⊎ ((t ≡ u) × (grade_number g < grade_number h))
      by true x b y c z e = inl (ltb-true u t x)
      by false x true y true z e = inr (eqb-true t u y, ltb-true (grade_number g) (grade_number h) z)
      by false x true y false z e = absurd (never e refl)
      by false x false y c z e = absurd (never e refl)

  pub is-beats : (u < t) ⊎ ((t ≡ u) × (grade_number g < grade_number h)) → beats t g u h ≡ true
  unfolding beats
  is-beats (inl l) = ap (λ (b : Bool). b || (eqb t u && ltb (grade_number g) (grade_number h))) (lt-ltb u t l)
  is-beats (inr (e, l)) = by (ltb u t) (eqb t u) (ltb (grade_number g) (grade_number h)) (eq-eqb t u e) (lt-ltb (grade_number g) (grade_number h) l)
    where
      by : (a b c : Bool) → b ≡ true → c ≡ true → (a || (b && c)) ≡ true
      by true b c x y = refl
      by false true true x y = refl
      by false true false x y = absurd (never y refl)
      by false false c x y = absurd (never x refl)

-- the number tells the grade
number_tells : (g h : Grade) → grade_number g ≡ grade_number h → g ≡ h
number_tells Clean Clean e = refl
number_tells Clean Sole e = absurd (omega (arith, e))
number_tells Clean Several e = absurd (omega (arith, e))
number_tells Sole Clean e = absurd (omega (arith, e))
number_tells Sole Sole e = refl
number_tells Sole Several e = absurd (omega (arith, e))
number_tells Several Clean e = absurd (omega (arith, e))
number_tells Several Sole e = absurd (omega (arith, e))
number_tells Several Several e = refl

-- ---- the laws

pub beats_irreflexive : (t : ℕ) (g : Grade) → beats t g t g ≡ true → ⊥
beats_irreflexive t g e = by (beats-is t g t g e)
  where
    by : (t < t) ⊎ ((t ≡ t) × (grade_number g < grade_number g)) → ⊥
    by (inl l) = omega (arith, l)
    by (inr (s, l)) = omega (arith, l)

pub beats_transitive : (t : ℕ) (g : Grade) (u : ℕ) (h : Grade) (v : ℕ) (k : Grade) → beats t g u h ≡ true → beats u h v k ≡ true → beats t g v k ≡ true
beats_transitive t g u h v k x y = is-beats t g v k (by (beats-is t g u h x) (beats-is u h v k y))
  where
    by : (u < t) ⊎ ((t ≡ u) × (grade_number g < grade_number h)) → (v < u) ⊎ ((u ≡ v) × (grade_number h < grade_number k)) → (v < t) ⊎ ((t ≡ v) × (grade_number g < grade_number k))
    by (inl a) (inl b) = inl (omega (arith, a, b))
    by (inl a) (inr (b, c)) = inl (omega (arith, a, b))
    by (inr (a, c)) (inl b) = inl (omega (arith, a, b))
    by (inr (a, c)) (inr (b, d)) = inr (a ∙ b, omega (arith, c, d))

-- of two replies one beats the other, or they agree in time and grade
pub beats-or_agrees : (t : ℕ) (g : Grade) (u : ℕ) (h : Grade) → (beats t g u h ≡ true) ⊎ ((beats u h t g ≡ true) ⊎ ((t ≡ u) × (g ≡ h)))
beats-or_agrees t g u h = by (ltb u t) refl (ltb t u) refl (ltb (grade_number g) (grade_number h)) refl (ltb (grade_number h) (grade_number g)) refl
  where
    by : (a : Bool) → ltb u t ≡ a → (b : Bool) → ltb t u ≡ b → (c : Bool) → ltb (grade_number g) (grade_number h) ≡ c → (d : Bool) → ltb (grade_number h) (grade_number g) ≡ d
        → (beats t g u h ≡ true) ⊎ ((beats u h t g ≡ true) ⊎ ((t ≡ u) × (g ≡ h)))
    by true x b y c z d w = inl (is-beats t g u h (inl (ltb-true u t x)))
    by false x true y c z d w = inr (inl (is-beats u h t g (inl (ltb-true t u y))))
    by false x false y c z d w =
        let e : t ≡ u = omega (arith, ltb-false u t x, ltb-false t u y) in
        at c z d w e
      where
        at : (c : Bool) → ltb (grade_number g) (grade_number h) ≡ c → (d : Bool) → ltb (grade_number h) (grade_number g) ≡ d → t ≡ u → (beats t g u h ≡ true) ⊎ ((beats u h t g ≡ true) ⊎ ((t ≡ u) × (g ≡ h)))
        at true z d w e = inl (is-beats t g u h (inr (e, ltb-true _ _ z)))
        at false z true w e = inr (inl (is-beats u h t g (inr (sym e, ltb-true _ _ w))))
        at false z false w e = inr (inr (e, number_tells g h (omega (arith, ltb-false (grade_number g) (grade_number h) z, ltb-false (grade_number h) (grade_number g) w))))

-- what beats a reply beats every reply that does not beat that one
pub beats-others : (t : ℕ) (g : Grade) (u : ℕ) (h : Grade) (v : ℕ) (k : Grade) → beats t g u h ≡ true → (beats v k u h ≡ true → ⊥) → beats t g v k ≡ true
beats-others t g u h v k x n = by (beats-or_agrees u h v k)
  where
    by : (beats u h v k ≡ true) ⊎ ((beats v k u h ≡ true) ⊎ ((u ≡ v) × (h ≡ k))) → beats t g v k ≡ true
    by (inl y) = beats_transitive t g u h v k x y
    by (inr (inl y)) = absurd (n y)
    by (inr (inr (e, f))) = sym (ap (λ (w : ℕ). beats t g w k) e) ∙ sym (ap (λ (z : Grade). beats t g u z) f) ∙ x
