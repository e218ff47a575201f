-- Replies that the test of the first bit judges otherwise than before (document 02, Point 11), with what is right of them now. `Barred` is
-- a fit of before: a change of one window, on low marks, that makes the message carry the word; but the first bit that it leaves does not
-- agree with the length. The checker asks every place of the 33 windows for its only possible change (`asked`).
use mathlib.Core.Path.{◌≡◌, refl, sym, ◌∙◌}
use mathlib.Core.Bool.{Bool, true, false, not, ◌&&◌, ◌||◌}
use mathlib.Core.List.{List, [], ◌∷◌}
use Prim.Native.Nat.{ℕ, ◌-◌, ◌*◌, ◌^◌, ◌<◌, ◌≤◌}
use native.Mathlib.Nat.{not-suc-le-zero}
use native.Mathlib.Omega.{arith}
use lib.Bits.{bit_xor}
use lib.Count.{ones}
use lib.Dec.{lit<, lit≤, eqb, leb}
use lib.ListN.{length}
use borrow.Author.Tests.{eqb-true, leb-true, le-leb}
use Rattle.outcome.proofs.Laws.{every, tested, both, when, never}
use Rattle.message.specs.Message.{number, first_bit, first_bit_agrees}
use Rattle.message.specs.Bits.{last_window, place, InWindow, inverted, number_bytes}
use Rattle.division.specs.Polynomial.{polynomial, downwards}
use Rattle.division.specs.Division.{Carries, generator, generator_powers, reduce, divide, remainder, backward}
use Rattle.sensor.specs.Changes.{OnLow, Fit, marks_at}
use Rattle.sensor.specs.Verdicts.{sole_mark, clean_answer, no_fit_answer, corrected_answer, syndrome, candidate, change_at, passes, fits_at}
use Rattle.sensor.proofs.Laws.{fit_is}
use Rattle.conformance.specs.Correcting.{NoneDense, LowestFit, OnlyChange, Right}
use Rattle.conformance.specs.Correcting.Right.{clean, no_fit, sole}
use Rattle.conformance.proofs.Instances.{none_dense, change_pos}

Barred : List ℕ → List ℕ → ℕ → ℕ → ℕ → Type 0
Barred m c word w d = InWindow m w d × OnLow c d × Carries (bit_xor (number m) d) word × (first_bit_agrees (inverted m d) ≡ false)

-- ---- every place of a short message asked

-- a place of a window that passes has the change d, and is at most `top`
asked : List ℕ → List ℕ → ℕ → ℕ → ℕ → ℕ → Bool
asked m c w d top e = not (leb e 32 && fits_at (passes m c) (syndrome m w) e) || (eqb (change_at (syndrome m w) e) d && leb e top)

module _ (m c : List ℕ) (w d top : ℕ) (hw : w < 2 ^ 24) (short : length m ≡ 7) (all : every 6 (asked m c w d top) ≡ true) where
  at-fit : (u e : ℕ) → Fit m c w u e → (e ≡ d) × (place m u ≤ top)
  unfolding asked Fit
  at-fit u e f =
      let low : place m u ≤ 32 = omega (arith, short) in
      let is = fit_is m c w hw u e f in
      let passed : (leb (place m u) 32 && fits_at (passes m c) (syndrome m w) (place m u)) ≡ true = rw (le-leb (place m u) 32 low) is.1 in
      let found = both _ _ (when _ _ (tested 6 (asked m c w d top) all (place m u) (omega arith)) passed) in
      (is.0 ∙ eqb-true (change_at (syndrome m w) (place m u)) d found.0, leb-true (place m u) top found.1)

  only : OnlyChange m c w d
  unfolding OnlyChange
  only u e f = (at-fit u e f).0

  lowest : (u e : ℕ) → u < 32 - top → Fit m c w u e → ⊥
  unfolding Fit
  lowest u e l f = omega (arith, (at-fit u e f).1, f.0.0, short)

  -- no change at all, where none is asked for
  none : d ≡ 0 → (u e : ℕ) → Fit m c w u e → ⊥
  none z u e f = omega (arith, change_pos m c w u e f, (at-fit u e f).0)

-- ---- several before, now sole

-- bit 28 is hit, in the windows from 4 on; marked are it and six bits of window 0 with the same remainder, the first bit among them
hit_28 : List ℕ
hit_28 = 0x00 ∷ 0x00 ∷ 0x00 ∷ 0x10 ∷ 0x00 ∷ 0x00 ∷ 0x00 ∷ []

marks_28 : List ℕ
marks_28 = 0xE0 ∷ 0x05 ∷ 0x44 ∷ 0x10 ∷ 0x00 ∷ 0x00 ∷ 0x00 ∷ []

was_several : Barred hit_28 marks_28 0x000000 0 0xE0054400000000
unfolding Barred hit_28 marks_28 OnLow number polynomial downwards generator generator_powers reduce divide remainder inverted number_bytes first_bit first_bit_agrees
was_several = ((lit≤ tt, 0xE00544, lit< tt, lit< tt, refl), refl, refl, refl)

asked_28 : every 6 (asked hit_28 marks_28 0x000000 0x10000000 28) ≡ true
unfolding every asked hit_28 marks_28 syndrome candidate change_at passes fits_at marks_at backward number polynomial downwards generator generator_powers reduce divide remainder inverted number_bytes first_bit first_bit_agrees
asked_28 = refl

fits_28 : Fit hit_28 marks_28 0x000000 4 0x10000000
unfolding Fit hit_28 marks_28 OnLow number polynomial downwards generator generator_powers reduce divide remainder inverted number_bytes first_bit first_bit_agrees
fits_28 = ((lit≤ tt, 1, lit< tt, lit< tt, refl), refl, refl, refl)

not_clean_28 : Carries (number hit_28) 0x000000 → ⊥
unfolding hit_28 number polynomial downwards generator generator_powers reduce divide remainder
not_clean_28 e = omega arith

now_sole : Right hit_28 marks_28 0x000000 24 (corrected_answer 4 (ones 0x10000000) sole_mark) (inverted hit_28 0x10000000)
unfolding LowestFit hit_28
now_sole =
    sole not_clean_28 (none_dense marks_28) 4 0x10000000 (fits_28, lowest hit_28 marks_28 0x000000 0x10000000 28 (lit< tt) refl asked_28)
    (only hit_28 marks_28 0x000000 0x10000000 28 (lit< tt) refl asked_28) refl refl

-- ---- corrected before, now no fit: the same reply, and the bit that was hit is not marked

marks_of_6 : List ℕ
marks_of_6 = 0xE0 ∷ 0x05 ∷ 0x44 ∷ 0x00 ∷ 0x00 ∷ 0x00 ∷ 0x00 ∷ []

was_corrected : Barred hit_28 marks_of_6 0x000000 0 0xE0054400000000
unfolding Barred hit_28 marks_of_6 OnLow number polynomial downwards generator generator_powers reduce divide remainder inverted number_bytes first_bit first_bit_agrees
was_corrected = ((lit≤ tt, 0xE00544, lit< tt, lit< tt, refl), refl, refl, refl)

asked_of_6 : every 6 (asked hit_28 marks_of_6 0x000000 0 0) ≡ true
unfolding every asked hit_28 marks_of_6 syndrome candidate change_at passes fits_at marks_at backward number polynomial downwards generator generator_powers reduce divide remainder inverted number_bytes first_bit first_bit_agrees
asked_of_6 = refl

now_no_fit : Right hit_28 marks_of_6 0x000000 24 no_fit_answer hit_28
unfolding hit_28
now_no_fit = no_fit not_clean_28 (none_dense marks_of_6) (none hit_28 marks_of_6 0x000000 0 0 (lit< tt) refl asked_of_6 refl) refl refl

-- ---- the lowest window moved from 0 to 2: bits 25 and 26 are hit

hit_25 : List ℕ
hit_25 = 0x00 ∷ 0x00 ∷ 0x00 ∷ 0xC0 ∷ 0x00 ∷ 0x00 ∷ 0x00 ∷ []

marks_25 : List ℕ
marks_25 = 0x80 ∷ 0x07 ∷ 0x06 ∷ 0xC0 ∷ 0x00 ∷ 0x00 ∷ 0x00 ∷ []

was_window_0 : Barred hit_25 marks_25 0x000000 0 0x80070600000000
unfolding Barred hit_25 marks_25 OnLow number polynomial downwards generator generator_powers reduce divide remainder inverted number_bytes first_bit first_bit_agrees
was_window_0 = ((lit≤ tt, 0x800706, lit< tt, lit< tt, refl), refl, refl, refl)

asked_25 : every 6 (asked hit_25 marks_25 0x000000 0xC0000000 30) ≡ true
unfolding every asked hit_25 marks_25 syndrome candidate change_at passes fits_at marks_at backward number polynomial downwards generator generator_powers reduce divide remainder inverted number_bytes first_bit first_bit_agrees
asked_25 = refl

fits_25 : Fit hit_25 marks_25 0x000000 2 0xC0000000
unfolding Fit hit_25 marks_25 OnLow number polynomial downwards generator generator_powers reduce divide remainder inverted number_bytes first_bit first_bit_agrees
fits_25 = ((lit≤ tt, 3, lit< tt, lit< tt, refl), refl, refl, refl)

not_clean_25 : Carries (number hit_25) 0x000000 → ⊥
unfolding hit_25 number polynomial downwards generator generator_powers reduce divide remainder
not_clean_25 e = omega arith

now_window_2 : Right hit_25 marks_25 0x000000 24 (corrected_answer 2 (ones 0xC0000000) sole_mark) (inverted hit_25 0xC0000000)
unfolding LowestFit hit_25
now_window_2 =
    sole not_clean_25 (none_dense marks_25) 2 0xC0000000 (fits_25, lowest hit_25 marks_25 0x000000 0xC0000000 30 (lit< tt) refl asked_25)
    (only hit_25 marks_25 0x000000 0xC0000000 30 (lit< tt) refl asked_25) refl refl

-- ---- a wrong first bit: mended where it is marked, and clean where the word is carried all the same

first_hit : List ℕ
first_hit = 0x80 ∷ 0x00 ∷ 0x00 ∷ 0x00 ∷ 0x00 ∷ 0x00 ∷ 0x00 ∷ []

is_wrong : first_bit_agrees first_hit ≡ false
unfolding first_hit first_bit first_bit_agrees
is_wrong = refl

asked_first : every 6 (asked first_hit first_hit 0x000000 (2 ^ 55) 32) ≡ true
unfolding every asked first_hit syndrome candidate change_at passes fits_at marks_at backward number polynomial downwards generator generator_powers reduce divide remainder inverted number_bytes first_bit first_bit_agrees
asked_first = refl

fits-first : Fit first_hit first_hit 0x000000 0 (2 ^ 55)
unfolding Fit first_hit OnLow number polynomial downwards generator generator_powers reduce divide remainder inverted number_bytes first_bit first_bit_agrees
fits-first = ((lit≤ tt, 0x800000, lit< tt, lit< tt, refl), refl, refl, refl)

not_clean_first : Carries (number first_hit) 0x000000 → ⊥
unfolding first_hit number polynomial downwards generator generator_powers reduce divide remainder
not_clean_first e = omega arith

wrong_mended : Right first_hit first_hit 0x000000 24 (corrected_answer 0 (ones (2 ^ 55)) sole_mark) (inverted first_hit (2 ^ 55))
unfolding LowestFit first_hit
wrong_mended =
    sole not_clean_first (none_dense first_hit) 0 (2 ^ 55) (fits-first, λ u e l. absurd (not-suc-le-zero l))
    (only first_hit first_hit 0x000000 (2 ^ 55) 32 (lit< tt) refl asked_first) refl refl

carries_first : Carries (number first_hit) 0x018567
unfolding first_hit number polynomial downwards generator generator_powers reduce divide remainder
carries_first = refl

wrong_clean : Right first_hit first_hit 0x018567 24 clean_answer first_hit
wrong_clean = clean carries_first refl refl
