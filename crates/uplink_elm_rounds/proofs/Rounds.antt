-- The theorems of specs/Rounds.antt. The idea of starting over: what is left to take is the whole list without its first j, and place i of it
-- is place j + i of the list, modulo its length.
use mathlib.Core.Path.{◌≡◌, refl, sym, ap, ◌∙◌}
use mathlib.Core.Logic.{◌↔◌, ◌⊎◌, inl, inr}
use mathlib.Core.Bool.{Bool, true, false, cond}
use mathlib.Core.List.{List, [], ◌∷◌}
use Prim.Native.Nat.{ℕ, zero, suc, ◌+◌, ◌%◌, ◌<◌, ◌≤◌}
use native.Mathlib.Nat.{add-zero, zero-add, add-mod_left, mod-eq_of_lt, eq-or-lt_of_le}
use native.Mathlib.Omega.{arith}
use lib.ListN.{length, get_or, drop}
use lib.Seq.{drop-cons, drop-length}
use Rattle.outcome.proofs.Laws.{never}
use Rattle.uplink_elm.specs.Segments.{is_held}
use Rattle.uplink_elm_sending.specs.Sending.{failing, unacknowledged, taken}
use Rattle.uplink_elm_sending.proofs.Laws.{taken-length, round_by_test, unsealed-parts, transmission-length, transmission-sealed}
use Rattle.uplink_elm_rounds.specs.Rounds.{Ascending, Among, LowestFirst, StartsOver, NoneWhenAll, IsSealed}
use Rattle.uplink_elm_rounds.proofs.Sets.{numbers_of, no_numbers}

-- ---- lowest first

from_below : (m : ℕ) (l : List ℕ) → Ascending (suc m) l → Ascending m l
unfolding Ascending
from_below m [] h = tt
from_below m (i ∷ l) h = (omega (arith, h.0), h.1)

failing_ascends : (f : ℕ → Bool) (k from : ℕ) → Ascending from (failing f from k)
unfolding Ascending failing
failing_ascends f zero from = tt
failing_ascends f (suc k) from = by (f from) (failing_ascends f k (suc from))
  where
    by : (t : Bool) → Ascending (suc from) (failing f (suc from) k) → Ascending from (cond t (failing f (suc from) k) (from ∷ failing f (suc from) k))
    by true h = from_below from (failing f (suc from) k) h
    by false h = (omega arith, h)

Fails : (ℕ → Bool) → ℕ → ℕ → ℕ → Type 0
Fails f from k i = (from ≤ i) × (i < from + k) × (f i ≡ false)

failing_among : (f : ℕ → Bool) (k from i : ℕ) → Among i (failing f from k) ↔ Fails f from k i
unfolding Among failing Fails
failing_among f zero from i = ((λ a. absurd a), λ h. absurd (omega (arith, h.0, h.1)))
failing_among f (suc k) from i = by (f from) refl (failing_among f k (suc from) i)
  where
    by : (t : Bool) → f from ≡ t → Among i (failing f (suc from) k) ↔ Fails f (suc from) k i
        → Among i (cond t (failing f (suc from) k) (from ∷ failing f (suc from) k)) ↔ Fails f from (suc k) i
    by true e r = ((λ a. let h = r.0 a in (omega (arith, h.0), omega (arith, h.1), h.2)), λ h. r.1 (above h (eq-or-lt_of_le h.0), omega (arith, h.1), h.2))
      where
        above : Fails f from (suc k) i → (from ≡ i) ⊎ (from < i) → suc from ≤ i
        above h (inl q) = absurd (never (ap f (sym q) ∙ e) h.2)
        above h (inr q) = q
    by false e r = (there, λ h. back h (eq-or-lt_of_le h.0))
      where
        there : (i ≡ from) ⊎ Among i (failing f (suc from) k) → Fails f from (suc k) i
        there (inl q) = (omega (arith, q), omega (arith, q), ap f q ∙ e)
        there (inr a) = let h = r.0 a in (omega (arith, h.0), omega (arith, h.1), h.2)

        back : Fails f from (suc k) i → (from ≡ i) ⊎ (from < i) → (i ≡ from) ⊎ Among i (failing f (suc from) k)
        back h (inl q) = inl (sym q)
        back h (inr q) = inr (r.1 (q, omega (arith, h.1), h.2))

pub lowest-first : LowestFirst
unfolding LowestFirst unacknowledged Fails
lowest-first a count = (
  failing_ascends (is_held a) count 0,
  λ i. let m = failing_among (is_held a) count 0 i in (
    (λ x. let h = m.0 x in (omega (arith, h.1), h.2)),
    λ h. m.1 (omega arith, omega (arith, h.0), h.1),
  ),
)

-- ---- starting over

next_ahead : (whole : List ℕ) (j s : ℕ) → j < length whole → taken whole (drop j whole) (suc s) ≡ get_or whole j 0 ∷ taken whole (drop (suc j) whole) s
unfolding taken
next_ahead whole j s lt = ap (λ (l : List ℕ). taken whole l (suc s)) (drop-cons whole j 0 lt)

next_over : (whole : List ℕ) (s : ℕ) → 0 < length whole → taken whole (drop (length whole) whole) (suc s) ≡ get_or whole 0 0 ∷ taken whole (drop 1 whole) s
unfolding taken
next_over [] s lt = absurd (omega arith)
next_over (n ∷ whole) s lt = ap (λ (l : List ℕ). taken (n ∷ whole) l (suc s)) (drop-length (n ∷ whole))

place : (whole : List ℕ) → 0 < length whole → (s i j : ℕ) → j ≤ length whole → i < s → get_or (taken whole (drop j whole) s) i 0 ≡ get_or whole ((j + i) % length whole) 0
place whole pos zero i j le lt = absurd (omega arith)
place whole pos (suc s) i j le lt = by i lt (eq-or-lt_of_le le) (place whole pos s)
  where
    by : (i : ℕ) → i < suc s → (j ≡ length whole) ⊎ (j < length whole)
        → ((i j : ℕ) → j ≤ length whole → i < s → get_or (taken whole (drop j whole) s) i 0 ≡ get_or whole ((j + i) % length whole) 0)
        → get_or (taken whole (drop j whole) (suc s)) i 0 ≡ get_or whole ((j + i) % length whole) 0
    by zero il (inr q) rest =
        ap (λ (l : List ℕ). get_or l 0 0) (next_ahead whole j s q)
        ∙ ap (λ (k : ℕ). get_or whole k 0) (sym (ap (λ (x : ℕ). x % length whole) (add-zero j) ∙ mod-eq_of_lt q))
    by zero il (inl q) rest =
        ap (λ (k : ℕ). get_or (taken whole (drop k whole) (suc s)) 0 0) q ∙ ap (λ (l : List ℕ). get_or l 0 0) (next_over whole s pos)
        ∙ ap (λ (k : ℕ). get_or whole k 0) (sym (ap (λ (x : ℕ). (x + 0) % length whole) q ∙ add-mod_left (length whole) 0 ∙ mod-eq_of_lt pos))
    by (suc i) il (inr q) rest =
        let same : suc j + i ≡ j + suc i = omega arith in
        ap (λ (l : List ℕ). get_or l (suc i) 0) (next_ahead whole j s q) ∙ rest i (suc j) q (omega arith)
        ∙ ap (λ (k : ℕ). get_or whole (k % length whole) 0) same
    by (suc i) il (inl q) rest =
        let one : 1 + i ≡ suc i = omega arith in
        ap (λ (k : ℕ). get_or (taken whole (drop k whole) (suc s)) (suc i) 0) q ∙ ap (λ (l : List ℕ). get_or l (suc i) 0) (next_over whole s pos)
        ∙ rest i 1 (omega (arith, pos)) (omega arith) ∙ ap (λ (k : ℕ). get_or whole (k % length whole) 0) one
        ∙ ap (λ (k : ℕ). get_or whole k 0) (sym (ap (λ (x : ℕ). (x + suc i) % length whole) q ∙ add-mod_left (length whole) (suc i)))

pub starts_over : StartsOver
unfolding StartsOver unacknowledged
starts_over a count s pos = (
  ap length (round_by_test a count s) ∙ taken-length _ _ s pos,
  λ i lt. ap (λ (l : List ℕ). get_or l i 0) (round_by_test a count s) ∙ place (failing (is_held a) 0 count) pos s i 0 (omega arith) lt
      ∙ ap (λ (k : ℕ). get_or (failing (is_held a) 0 count) (k % length (failing (is_held a) 0 count)) 0) (zero-add i),
)

pub none_when_all : NoneWhenAll
unfolding NoneWhenAll numbers_of
none_when_all a count s f = round_by_test a count s ∙ no_numbers count s (is_held a) f

-- ---- a transmission

pub is_sealed : IsSealed
unfolding IsSealed
is_sealed address control number bytes ha hc hn ten =
    let sealed = transmission-sealed control number bytes ten address (omega (arith, ha)) (omega (arith, hc)) hn in
    let parts = unsealed-parts control number bytes ten (omega (arith, hc)) hn in
    (sealed.0, sealed.1, transmission-length control number bytes ten address, parts.0, parts.1, parts.2, parts.3)
