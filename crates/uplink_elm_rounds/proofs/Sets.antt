-- The game over sets of numbers, apart from any byte. A set is its test. The idea: `lacking` counts the numbers below n that are not in a
-- set; a round that gets one transmission through leaves fewer of them lacking.
use mathlib.Core.Path.{◌≡◌, refl, sym, ap, ◌∙◌, subst}
use mathlib.Core.Logic.{◌⊎◌, inl, inr}
use mathlib.Core.Bool.{Bool, true, false, cond, ◌||◌, or-true}
use mathlib.Core.List.{List, [], ◌∷◌}
use Prim.Native.Nat.{ℕ, zero, suc, ◌+◌, ◌-◌, ◌<◌, ◌≤◌}
use native.Mathlib.Nat.{zero-add}
use native.Mathlib.Omega.{arith}
use native.Mathlib.Decide.{ℕ_discrete}
use lib.Dec.{eqb}
use lib.ListN.{length, replicate}
use borrow.Author.Tests.{eqb-true, eq-eqb, ne_eqb}
use Rattle.outcome.proofs.Laws.{never, or_cases}
use Rattle.uplink_elm_sending.specs.Sending.{failing, taken}
use Rattle.uplink_elm_sending.proofs.Laws.{taken_none, taken-length, taken-le}
use Rattle.uplink_elm_rounds.specs.Game.{Choice, destroyed, remaining}

abbrev pub Numbers : Type 0
Numbers = ℕ → Bool

abbrev pub empty : Numbers
empty i = false

-- a set with one number more, and with those of a list
unfoldable pub with : ℕ → Numbers → Numbers
with j h i = eqb i j || h i

unfoldable pub with_all : List ℕ → Numbers → Numbers
with_all [] h = h
with_all (j ∷ l) h = with_all l (with j h)

-- the numbers that a round transmits which is given the set a, and what is held after it
unfoldable pub numbers_of : ℕ → ℕ → Numbers → List ℕ
numbers_of n s a = taken (failing a 0 n) (failing a 0 n) s

unfoldable pub after_round : ℕ → ℕ → Numbers → Numbers → Choice → Numbers
after_round n s a h c = with (n - 1) (with_all (remaining c (numbers_of n s a)) h)

-- ---- sets

-- each number of the first is one of the second; each number of a set is below n
unfoldable pub Within : Numbers → Numbers → Type 0
Within h g = (i : ℕ) → h i ≡ true → g i ≡ true

unfoldable pub Bounded : ℕ → Numbers → Type 0
Bounded n h = (i : ℕ) → h i ≡ true → i < n

pub with_there : (j : ℕ) (h : Numbers) → with j h j ≡ true
unfolding with
with_there j h = ap (λ (b : Bool). b || h j) (eq-eqb j j refl)

pub with-kept : (j : ℕ) (h : Numbers) → Within h (with j h)
unfolding Within with
with-kept j h i e = ap (λ (b : Bool). eqb i j || b) e ∙ or-true (eqb i j)

pub with_other : (j : ℕ) (h : Numbers) (i : ℕ) → (i ≡ j → ⊥) → with j h i ≡ h i
unfolding with
with_other j h i ne = ap (λ (b : Bool). b || h i) (ne_eqb i j ne)

pub with_bounded : (n j : ℕ) (h : Numbers) → j < n → Bounded n h → Bounded n (with j h)
unfolding Bounded with
with_bounded n j h lt b i e = by (or_cases (eqb i j) (h i) e)
  where
    by : (eqb i j ≡ true) ⊎ (h i ≡ true) → i < n
    by (inl q) = omega (arith, eqb-true i j q, lt)
    by (inr q) = b i q

with-all-kept : (l : List ℕ) (h : Numbers) → Within h (with_all l h)
unfolding Within with_all
with-all-kept [] h i e = e
with-all-kept (j ∷ l) h i e = with-all-kept l (with j h) i (with-kept j h i e)

-- ---- the numbers of a round

-- every number of a list is below n and not in a set
unfoldable pub Lacked : ℕ → Numbers → List ℕ → Type 0
Lacked n a [] = Unit {0}
Lacked n a (i ∷ l) = (i < n) × (a i ≡ false) × Lacked n a l

failing_lacked : (n : ℕ) (a : Numbers) (k from : ℕ) → from + k ≤ n → Lacked n a (failing a from k)
unfolding Lacked failing
failing_lacked n a zero from le = tt
failing_lacked n a (suc k) from le = by (a from) refl (failing_lacked n a k (suc from) (omega arith))
  where
    by : (t : Bool) → a from ≡ t → Lacked n a (failing a (suc from) k) → Lacked n a (cond t (failing a (suc from) k) (from ∷ failing a (suc from) k))
    by true e l = l
    by false e l = (omega (arith, le), e, l)

taken_lacked : (n : ℕ) (a : Numbers) (whole rest : List ℕ) (s : ℕ) → Lacked n a whole → Lacked n a rest → Lacked n a (taken whole rest s)
unfolding Lacked taken
taken_lacked n a whole rest zero h g = tt
taken_lacked n a whole (i ∷ rest) (suc s) h g = (g.0, g.1, taken_lacked n a whole rest s h g.2)
taken_lacked n a [] [] (suc s) h g = tt
taken_lacked n a (i ∷ whole) [] (suc s) h g = (h.0, h.1, taken_lacked n a (i ∷ whole) whole s h h.2)

pub remaining_lacked : (n : ℕ) (a : Numbers) (c : Choice) (l : List ℕ) → Lacked n a l → Lacked n a (remaining c l)
unfolding Lacked remaining
remaining_lacked n a [] l h = h
remaining_lacked n a (b ∷ c) [] h = tt
remaining_lacked n a (true ∷ c) (i ∷ l) h = remaining_lacked n a c l h.2
remaining_lacked n a (false ∷ c) (i ∷ l) h = (h.0, h.1, remaining_lacked n a c l h.2)

pub numbers_lacked : (n s : ℕ) (a : Numbers) → Lacked n a (numbers_of n s a)
unfolding numbers_of
numbers_lacked n s a = let f = failing_lacked n a n 0 (omega arith) in taken_lacked n a _ _ s f f

remaining-length : (c : Choice) (l : List ℕ) → length l ≤ length (remaining c l) + destroyed c
unfolding destroyed remaining
remaining-length [] l = omega arith
remaining-length (b ∷ c) [] = omega arith
remaining-length (true ∷ c) (i ∷ l) = omega (arith, remaining-length c l)
remaining-length (false ∷ c) (i ∷ l) = omega (arith, remaining-length c l)

-- a number that fails is one of them
some_failing : (a : Numbers) (k from j : ℕ) → from ≤ j → j < from + k → a j ≡ false → 0 < length (failing a from k)
unfolding failing
some_failing a zero from j lo hi e = absurd (omega arith)
some_failing a (suc k) from j lo hi e = by (a from) refl (some_failing a k (suc from) j)
  where
    by : (t : Bool) → a from ≡ t → (suc from ≤ j → j < suc from + k → a j ≡ false → 0 < length (failing a (suc from) k))
        → 0 < length (cond t (failing a (suc from) k) (from ∷ failing a (suc from) k))
    by true q rest =
        let ne : from ≡ j → ⊥ = λ r. never (ap a (sym r) ∙ q) e in
        rest (omega (arith, lo, ne)) (omega arith) e
    by false q rest = omega arith

pub some_numbers : (n s : ℕ) (a : Numbers) (j : ℕ) → j < n → a j ≡ false → length (numbers_of n s a) ≡ s
unfolding numbers_of
some_numbers n s a j lt e = taken-length _ _ s (some_failing a n 0 j (omega arith) (omega arith) e)

-- and where none fails there is none
none-failing : (a : Numbers) (k from : ℕ) → ((i : ℕ) → i < from + k → a i ≡ true) → failing a from k ≡ []
unfolding failing
none-failing a zero from f = refl
none-failing a (suc k) from f =
    ap (λ (t : Bool). cond t (failing a (suc from) k) (from ∷ failing a (suc from) k)) (f from (omega arith))
    ∙ none-failing a k (suc from) (λ i lt. f i (omega arith))

pub no_numbers : (n s : ℕ) (a : Numbers) → ((i : ℕ) → i < n → a i ≡ true) → numbers_of n s a ≡ []
unfolding numbers_of
no_numbers n s a f = ap (λ (l : List ℕ). taken l l s) (none-failing a n 0 (λ i lt. f i (omega arith))) ∙ taken_none s

-- ---- how many numbers below n are lacking

-- 1 for a number that is lacking, and 0 for one that is held
abbrev one : Bool → ℕ
one true = 0
one false = 1

unfoldable pub lacking : ℕ → Numbers → ℕ
lacking zero h = 0
lacking (suc n) h = lacking n h + one (h n)

one-le : (b d : Bool) → (b ≡ true → d ≡ true) → one d ≤ one b
one-le true true i = omega arith
one-le true false i = absurd (never (i refl) refl)
one-le false true i = omega arith
one-le false false i = omega arith

pub lacking-le : (n : ℕ) (h g : Numbers) → Within h g → lacking n g ≤ lacking n h
unfolding Within lacking
lacking-le zero h g w = omega arith
lacking-le (suc n) h g w = omega (arith, lacking-le n h g w, one-le (h n) (g n) (w n))

pub lacking-lt : (n : ℕ) (h g : Numbers) → Within h g → (j : ℕ) → j < n → h j ≡ false → g j ≡ true → lacking n g < lacking n h
unfolding Within lacking
lacking-lt zero h g w j lt e d = absurd (omega arith)
lacking-lt (suc n) h g w j lt e d = go (ℕ_discrete j n) (lacking-lt n h g w j)
  where
    go : Dec (j ≡ n) → (j < n → h j ≡ false → g j ≡ true → lacking n g < lacking n h) → lacking n g + one (g n) < lacking n h + one (h n)
    go (yes q) ih =
        let eh : one (h n) ≡ 1 = ap one (sym (ap h q) ∙ e) in
        let eg : one (g n) ≡ 0 = ap one (sym (ap g q) ∙ d) in
        omega (arith, lacking-le n h g w)
    go (no q) ih = omega (arith, one-le (h n) (g n) (w n), ih (omega (arith, q)) e d)

pub lacking-none : (n : ℕ) (h : Numbers) → lacking n h ≡ 0 → (i : ℕ) → i < n → h i ≡ true
lacking-none n h z i lt = go (h i) refl
  where
    go : (b : Bool) → h i ≡ b → h i ≡ true
    go true e = e
    go false e = absurd (omega (arith, lacking-lt n h (with i h) (with-kept i h) i lt e (with_there i h)))

lacking_bound : (n : ℕ) (h : Numbers) → lacking n h ≤ n
unfolding lacking
lacking_bound zero h = omega arith
lacking_bound (suc n) h = omega (arith, lacking_bound n h, one-le false (h n) (λ e. absurd (never e refl)))

lacking_some : (n : ℕ) (h : Numbers) → 0 < lacking n h → (j : ℕ) × (j < n) × (h j ≡ false)
unfolding lacking
lacking_some zero h pos = absurd (omega arith)
lacking_some (suc n) h pos = go (h n) refl (lacking_some n h)
  where
    more : (j : ℕ) × (j < n) × (h j ≡ false) → (j : ℕ) × (j < suc n) × (h j ≡ false)
    more (j, lt, e) = (j, omega (arith, lt), e)

    go : (b : Bool) → h n ≡ b → (0 < lacking n h → (j : ℕ) × (j < n) × (h j ≡ false)) → (j : ℕ) × (j < suc n) × (h j ≡ false)
    go true e rest = more (rest (omega (arith, pos, ap one e)))
    go false e rest = (n, omega arith, e)

-- ---- a round

module _ (n s : ℕ) (a h : Numbers) (c : Choice) where
  pub round-kept : Within h (after_round n s a h c)
  unfolding Within after_round
  round-kept i e = with-kept (n - 1) (with_all (remaining c (numbers_of n s a)) h) i (with-all-kept (remaining c (numbers_of n s a)) h i e)

  pub round-last : after_round n s a h c (n - 1) ≡ true
  unfolding after_round
  round-last = with_there (n - 1) (with_all (remaining c (numbers_of n s a)) h)

  pub round-bounded : 0 < n → Bounded n h → Bounded n (after_round n s a h c)
  unfolding after_round Lacked with_all
  round-bounded pos b =
      with_bounded n (n - 1) _ (omega (arith, pos)) (all (remaining c (numbers_of n s a)) h (remaining_lacked n a c (numbers_of n s a) (numbers_lacked n s a)) b)
    where
      all : (l : List ℕ) (h : Numbers) → Lacked n a l → Bounded n h → Bounded n (with_all l h)
      all [] h k b = b
      all (j ∷ l) h k b = all l (with j h) k.2 (with_bounded n j h k.0 b)

  -- one transmission gets through, and it is of one of the numbers that were sent
  pub round-gains : (m : ℕ) → Lacked m a (numbers_of n s a) → destroyed c < length (numbers_of n s a)
      → (i : ℕ) × (i < m) × (a i ≡ false) × (after_round n s a h c i ≡ true)
  unfolding after_round Within Lacked with_all
  round-gains m all lt =
      first (remaining c (numbers_of n s a)) (remaining_lacked m a c (numbers_of n s a) all) (omega (arith, remaining-length c (numbers_of n s a), lt))
    where
      first : (l : List ℕ) → Lacked m a l → 0 < length l → (i : ℕ) × (i < m) × (a i ≡ false) × (with (n - 1) (with_all l h) i ≡ true)
      first [] k p = absurd (omega arith)
      first (i ∷ l) k p =
          (i, k.0, k.1, with-kept (n - 1) (with_all l (with i h)) i (with-all-kept l (with i h) i (with_there i h)))

-- a round that was given what is held leaves fewer lacking
pub round_fewer : (n s : ℕ) (h : Numbers) (c : Choice) → destroyed c < s → 0 < lacking n h → lacking n (after_round n s h h c) < lacking n h
round_fewer n s h c lt pos =
    let some = lacking_some n h pos in
    let g = round-gains n s h h c n (numbers_lacked n s h) (omega (arith, lt, some_numbers n s h some.0 some.1 some.2)) in
    lacking-lt n h (after_round n s h h c) (round-kept n s h h c) g.0 g.1 g.2 g.3

-- ---- the first round, which is given nothing

pub opening-lacking : (n : ℕ) → 0 < n → lacking n (with (n - 1) empty) < n
unfolding Within
opening-lacking n pos =
    omega (arith, lacking_bound n empty, lacking-lt n empty (with (n - 1) empty) (λ i e. absurd (never e refl)) (n - 1) (omega (arith, pos)) refl (with_there (n - 1) empty))

-- it sends the numbers from 0 on
from_the_lowest : (whole : List ℕ) (s k from : ℕ) → s ≤ k → Lacked (from + s) empty (taken whole (failing empty from k) s)
unfolding Lacked failing taken
from_the_lowest whole zero k from le = tt
from_the_lowest whole (suc s) zero from le = absurd (omega arith)
from_the_lowest whole (suc s) (suc k) from le =
    let more : suc from + s ≡ from + suc s = omega arith in
    (omega arith, refl, subst (λ (m : ℕ). Lacked m empty (taken whole (failing empty (suc from) k) s)) more (from_the_lowest whole s k (suc from) (omega arith)))

-- with fewer transmissions than segments it brings a number other than the last
pub first_brings : (n s : ℕ) (c : Choice) → destroyed c < s → s < n → lacking n (after_round n s empty (with (n - 1) empty) c) + 1 < n
unfolding numbers_of
first_brings n s c lt short =
    let g = round-gains n s empty (with (n - 1) empty) c s (subst (λ (m : ℕ). Lacked m empty (numbers_of n s empty)) (zero-add s) (from_the_lowest _ s n 0 (omega arith)))
    (omega (arith, lt, some_numbers n s empty 0 (omega arith) refl)) in
    omega (
      arith,
      opening-lacking n (omega arith),
      lacking-lt n (with (n - 1) empty) (after_round n s empty (with (n - 1) empty) c) (round-kept n s empty (with (n - 1) empty) c) g.0 (omega (arith, g.1, short))
          (with_other (n - 1) empty g.0 (λ e. omega (arith, e, g.1, short))) g.3,
    )

-- ---- every transmission destroyed

all-destroyed : (m : ℕ) (l : List ℕ) → length l ≤ m → remaining (replicate m true) l ≡ []
unfolding remaining
all-destroyed zero [] le = refl
all-destroyed zero (i ∷ l) le = absurd (omega arith)
all-destroyed (suc m) [] le = refl
all-destroyed (suc m) (i ∷ l) le = all-destroyed m l (omega arith)

pub destroys : (m : ℕ) → destroyed (replicate m true) ≡ m
unfolding destroyed
destroys zero = refl
destroys (suc m) = ap suc (destroys m)

pub silent_round : (n s : ℕ) (a h : Numbers) (i : ℕ) → (i ≡ n - 1 → ⊥) → after_round n s a h (replicate s true) i ≡ h i
unfolding with_all after_round numbers_of
silent_round n s a h i ne =
    ap (λ (l : List ℕ). with (n - 1) (with_all l h) i) (all-destroyed s (numbers_of n s a) (taken-le _ _ s)) ∙ with_other (n - 1) h i ne
