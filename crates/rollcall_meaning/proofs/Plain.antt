-- The plain map: an entry put in, and one taken out.
use mathlib.Core.Path.{◌≡◌, refl, sym, ap, ◌∙◌}
use mathlib.Core.Bool.{Bool, true, false, cond}
use mathlib.Core.List.{[], ◌∷◌}
use mathlib.Core.Option.{Option, none, some}
use Prim.Native.Nat.{ℕ, suc}
use lib.Dec.{eqb}
use lib.ListN.{length}
use borrow.Author.Tests.{eqb-true, eqb-false, eq-eqb, ne_eqb}
use Rattle.outcome.proofs.Laws.{never}
use Rattle.rollcall_meaning.specs.Maps.{Value, is_some, Entries, lookup, put, take_out}

-- no address has two entries
unfoldable pub Distinct : Entries → Type 0
Distinct [] = Unit {0}
Distinct (e ∷ m) = (lookup m e.0 ≡ none) × Distinct m

pub swap : (a b : ℕ) → eqb a b ≡ eqb b a
swap a b = by (eqb a b) refl
  where
    by : (t : Bool) → eqb a b ≡ t → t ≡ eqb b a
    by true t = sym (eq-eqb b a (sym (eqb-true a b t)))
    by false t = sym (ne_eqb b a (λ s. eqb-false a b t (sym s)))

-- two tests that are not both passed
apart : {X : Type 0} (e a b : ℕ) (x y z : X) → eqb e a ≡ false → cond (eqb e b) x (cond (eqb b a) y z) ≡ cond (eqb b a) y (cond (eqb e b) x z)
apart e a b x y z f = by (eqb e b) refl (eqb b a) refl
  where
    by : (s : Bool) → eqb e b ≡ s → (t : Bool) → eqb b a ≡ t → cond s x (cond t y z) ≡ cond t y (cond s x z)
    by true p true q = absurd (eqb-false e a f (eqb-true e b p ∙ eqb-true b a q))
    by true p false q = refl
    by false p true q = refl
    by false p false q = refl

-- ---- put in

pub lookup-put : (a : ℕ) (v : Value) (m : Entries) (b : ℕ) → lookup (put a v m) b ≡ cond (eqb b a) (some v) (lookup m b)
unfolding lookup put
lookup-put a v [] b = ap (λ (t : Bool). cond t (some v) none) (swap a b)
lookup-put a v (e ∷ m) b = by (eqb e.0 a) refl (lookup-put a v m b)
  where
    by : (t : Bool) → eqb e.0 a ≡ t → lookup (put a v m) b ≡ cond (eqb b a) (some v) (lookup m b)
        → lookup (cond t ((a, v) ∷ m) (e ∷ put a v m)) b ≡ cond (eqb b a) (some v) (cond (eqb e.0 b) (some e.1) (lookup m b))
    by true p rest =
        ap (λ (t : Bool). cond t (some v) (lookup m b)) (swap a b)
        ∙ at (eqb b a) refl
      where
        at : (t : Bool) → eqb b a ≡ t → cond t (some v) (lookup m b) ≡ cond t (some v) (cond (eqb e.0 b) (some e.1) (lookup m b))
        at true q = refl
        at false q = sym (ap (λ (t : Bool). cond t (some e.1) (lookup m b)) (ne_eqb e.0 b (λ s. eqb-false b a q (sym s ∙ eqb-true e.0 a p))))
    by false p rest = ap (λ (o : Option Value). cond (eqb e.0 b) (some e.1) o) rest ∙ apart e.0 a b (some e.1) (some v) (lookup m b) p

pub put_new : (a : ℕ) (v : Value) (m : Entries) → is_some (lookup m a) ≡ false → length (put a v m) ≡ suc (length m)
unfolding lookup put
put_new a v [] n = refl
put_new a v (e ∷ m) n = by (eqb e.0 a) n (put_new a v m)
  where
    by : (t : Bool) → is_some (cond t (some e.1) (lookup m a)) ≡ false → (is_some (lookup m a) ≡ false → length (put a v m) ≡ suc (length m)) → length (cond t ((a, v) ∷ m) (e ∷ put a v m)) ≡ suc (suc (length m))
    by true n rest = absurd (never refl n)
    by false n rest = ap suc (rest n)

pub put_old : (a : ℕ) (v : Value) (m : Entries) → is_some (lookup m a) ≡ true → length (put a v m) ≡ length m
unfolding lookup put
put_old a v [] n = absurd (never n refl)
put_old a v (e ∷ m) n = by (eqb e.0 a) n (put_old a v m)
  where
    by : (t : Bool) → is_some (cond t (some e.1) (lookup m a)) ≡ true → (is_some (lookup m a) ≡ true → length (put a v m) ≡ length m) → length (cond t ((a, v) ∷ m) (e ∷ put a v m)) ≡ suc (length m)
    by true n rest = refl
    by false n rest = ap suc (rest n)

pub put_distinct : (a : ℕ) (v : Value) (m : Entries) → Distinct m → Distinct (put a v m)
unfolding put Distinct lookup
put_distinct a v [] d = (refl, tt)
put_distinct a v (e ∷ m) d = by (eqb e.0 a) refl (put_distinct a v m d.1)
  where
    by : (t : Bool) → eqb e.0 a ≡ t → Distinct (put a v m) → Distinct (cond t ((a, v) ∷ m) (e ∷ put a v m))
    by true p rest = (ap (lookup m) (sym (eqb-true e.0 a p)) ∙ d.0, d.1)
    by false p rest = (lookup-put a v m e.0 ∙ ap (λ (t : Bool). cond t (some v) (lookup m e.0)) p ∙ d.0, rest)

-- ---- taken out

pub lookup_out : (a : ℕ) (m : Entries) (b : ℕ) → Distinct m → lookup (take_out a m) b ≡ cond (eqb b a) none (lookup m b)
unfolding lookup take_out Distinct
lookup_out a [] b d = by (eqb b a)
  where
    by : (t : Bool) → ◌≡◌ {A = Option Value} none (cond t none none)
    by true = refl
    by false = refl
lookup_out a (e ∷ m) b d = by (eqb e.0 a) refl (lookup_out a m b d.1)
  where
    by : (t : Bool) → eqb e.0 a ≡ t → lookup (take_out a m) b ≡ cond (eqb b a) none (lookup m b) → lookup (cond t m (e ∷ take_out a m)) b ≡ cond (eqb b a) none (cond (eqb e.0 b) (some e.1) (lookup m b))
    by true p rest = at (eqb b a) refl
      where
        at : (t : Bool) → eqb b a ≡ t → lookup m b ≡ cond t none (cond (eqb e.0 b) (some e.1) (lookup m b))
        at true q = ap (lookup m) (eqb-true b a q ∙ sym (eqb-true e.0 a p)) ∙ d.0
        at false q = sym (ap (λ (t : Bool). cond t (some e.1) (lookup m b)) (ne_eqb e.0 b (λ s. eqb-false b a q (sym s ∙ eqb-true e.0 a p))))
    by false p rest = ap (λ (o : Option Value). cond (eqb e.0 b) (some e.1) o) rest ∙ apart e.0 a b (some e.1) none (lookup m b) p

pub out_old : (a : ℕ) (m : Entries) → is_some (lookup m a) ≡ true → suc (length (take_out a m)) ≡ length m
unfolding lookup take_out
out_old a [] n = absurd (never n refl)
out_old a (e ∷ m) n = by (eqb e.0 a) n (out_old a m)
  where
    by : (t : Bool) → is_some (cond t (some e.1) (lookup m a)) ≡ true → (is_some (lookup m a) ≡ true → suc (length (take_out a m)) ≡ length m) → suc (length (cond t m (e ∷ take_out a m))) ≡ suc (length m)
    by true n rest = refl
    by false n rest = ap suc (rest n)

pub out_new : (a : ℕ) (m : Entries) → is_some (lookup m a) ≡ false → take_out a m ≡ m
unfolding lookup take_out
out_new a [] n = refl
out_new a (e ∷ m) n = by (eqb e.0 a) n (out_new a m)
  where
    by : (t : Bool) → is_some (cond t (some e.1) (lookup m a)) ≡ false → (is_some (lookup m a) ≡ false → take_out a m ≡ m) → cond t m (e ∷ take_out a m) ≡ e ∷ m
    by true n rest = absurd (never refl n)
    by false n rest = ap (e ∷◌) (rest n)

pub out_distinct : (a : ℕ) (m : Entries) → Distinct m → Distinct (take_out a m)
unfolding take_out Distinct lookup
out_distinct a [] d = tt
out_distinct a (e ∷ m) d = by (eqb e.0 a) refl (out_distinct a m d.1)
  where
    by : (t : Bool) → eqb e.0 a ≡ t → Distinct (take_out a m) → Distinct (cond t m (e ∷ take_out a m))
    by true p rest = d.1
    by false p rest = (lookup_out a m e.0 d.1 ∙ ap (λ (t : Bool). cond t none (lookup m e.0)) p ∙ d.0, rest)
