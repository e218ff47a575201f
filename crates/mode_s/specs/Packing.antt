-- The answer of any call as one number of 64 bits (document 02, Point 6: 'Answers come back as one 64-bit number whose parts
-- docs/ lays out: answer, address read, window, bit count, mark, refusal. Different answers give different numbers').
-- docs/C-INTERFACE.md draws the layout.
--
-- Document 01 numbers the answers of the transponder and of the sensor each from 1. Here the answers of all calls are
-- numbered through, so that a number says by itself what was answered.
use Rattle.std.specs.Prelude.{ℕ, ◌+◌, ◌*◌, ◌/◌, ◌%◌, ◌^◌, ◌<◌, ◌≤◌, ◌≡◌, ◌⊎◌, cond, List, [], ◌∷◌, eqb, get_or}
use Rattle.outcome.specs.Outcomes.{Outcome, done}
use Rattle.outcome.specs.Outcomes.Outcome.{refusal, answer}
use Rattle.transponder.specs.Receptions.{answered}
use Rattle.transponder.specs.declared.Reception.TheVariants.{Own, AllCall, Broadcast, NotOurs}
use Rattle.sensor.specs.Verdicts.{sole_mark, several_mark, clean_answer, dense_answer, no_fit_answer, corrected_answer}

-- ---- the layout

-- Six parts, from the lowest bits on: the answer, the refusal, the mark, the window and the count of bits changed, in 8 bits
-- each, and the address read in 24. Each part stays in its own bits.
unfoldable pub parts : ℕ → ℕ → ℕ → ℕ → ℕ → ℕ → ℕ
parts number refused mark window bits address =
    number % 2 ^ 8
    + refused % 2 ^ 8 * 2 ^ 8
    + mark % 2 ^ 8 * 2 ^ 16
    + window % 2 ^ 8 * 2 ^ 24
    + bits % 2 ^ 8 * 2 ^ 32
    + address % 2 ^ 24 * 2 ^ 40

-- Each part, taken out of a number.
unfoldable pub number_in : ℕ → ℕ
number_in x = x % 2 ^ 8

unfoldable pub refusal_in : ℕ → ℕ
refusal_in x = x / 2 ^ 8 % 2 ^ 8

unfoldable pub mark_in : ℕ → ℕ
mark_in x = x / 2 ^ 16 % 2 ^ 8

unfoldable pub window_in : ℕ → ℕ
window_in x = x / 2 ^ 24 % 2 ^ 8

unfoldable pub bits_in : ℕ → ℕ
bits_in x = x / 2 ^ 32 % 2 ^ 8

unfoldable pub address_in : ℕ → ℕ
address_in x = x / 2 ^ 40 % 2 ^ 24

-- ---- an outcome, packed

-- Whose answer it is: a seal's (of either kind), the transponder's, the sensor's or that of the division of a recording.
pub data Source : Type 0 where
  seal : Source
  transponder : Source
  sensor : Source
  recording : Source

-- The number 'refused', and those of the answers by document 01's number: sealed 2; own, all-call, not ours and broadcast 3
-- to 6; clean, dense, no fit and corrected 7 to 10; divided 11. No answer has the number 0.
abbrev pub refused_number : ℕ
refused_number = 1

abbrev pub answer_number : Source → ℕ → ℕ
answer_number seal n = 2 + n
answer_number transponder n = 2 + n
answer_number sensor n = 6 + n
answer_number recording n = 11 + n

-- The parts of an outcome: the transponder's value is the address read; the sensor's are the window, the count of bits and
-- the mark, in this order. A part that an answer lacks is 0.
unfoldable pub packed : Source → Outcome → ℕ
packed s (refusal n) = parts refused_number n 0 0 0 0
packed seal (answer n vs) = parts (answer_number seal n) 0 0 0 0 0
packed transponder (answer n vs) = parts (answer_number transponder n) 0 0 0 0 (get_or vs 0 0)
packed sensor (answer n vs) = parts (answer_number sensor n) 0 (get_or vs 2 0) (get_or vs 0 0) (get_or vs 1 0) 0
packed recording (answer n vs) = parts (answer_number recording n) 0 0 0 0 0

-- ---- and unpacked

-- What a caller learns: the number of the refusal, which means the same from every call, or whose answer it is, with
-- document 01's number and values.
pub data Answer : Type 0 where
  refused : ℕ → Answer
  given : Source → ℕ → List ℕ → Answer

abbrev pub answer_of : Source → Outcome → Answer
answer_of s (refusal n) = refused n
answer_of s (answer n vs) = given s n vs

-- By the number of the answer, from its parts.
abbrev pub answer_by : ℕ → ℕ → ℕ → ℕ → ℕ → ℕ → Answer
answer_by number row mark window bits address =
    cond (eqb number 2) (given seal 0 [])
    (cond (eqb number 3) (given transponder 1 [])
    (cond (eqb number 4) (given transponder 2 [])
    (cond (eqb number 5) (given transponder 3 (address ∷ []))
    (cond (eqb number 6) (given transponder 4 [])
    (cond (eqb number 7) (given sensor 1 [])
    (cond (eqb number 8) (given sensor 2 (window ∷ []))
    (cond (eqb number 9) (given sensor 3 [])
    (cond (eqb number 10) (given sensor 4 (window ∷ bits ∷ mark ∷ []))
    (cond (eqb number 11) (given recording 0 [])
    (refused row))))))))))

unfoldable pub unpacked : ℕ → Answer
unpacked x = answer_by (number_in x) (refusal_in x) (mark_in x) (window_in x) (bits_in x) (address_in x)

-- ---- what the calls can answer

-- Rows 1 to 6 of the refusals; 'sealed'; the transponder's four answers, an address of 24 bits with 'not ours'; the sensor's
-- four, with windows 0 to 88, 1 to 24 bits changed, and one of two marks; 'divided'. That no call answers anything else is the
-- conformance crate's theorem.
pub data Possible : Source → Outcome → Type 0 where
  refused_by : (s : Source) (n : ℕ) → 1 ≤ n → n ≤ 6 → Possible s (refusal n)
  sealed : Possible seal done
  own : Possible transponder (answered Own)
  all_call : Possible transponder (answered AllCall)
  broadcast : Possible transponder (answered Broadcast)
  not_ours : (a : ℕ) → a < 2 ^ 24 → Possible transponder (answered (NotOurs a))
  clean : Possible sensor clean_answer
  dense : (w : ℕ) → w ≤ 88 → Possible sensor (dense_answer w)
  no_fit : Possible sensor no_fit_answer
  corrected : (w b k : ℕ) → w ≤ 88 → 1 ≤ b → b ≤ 24 → (k ≡ sole_mark) ⊎ (k ≡ several_mark) → Possible sensor (corrected_answer w b k)
  divided : Possible recording done

-- ---- the statements

-- An unpacking function gives the answer back.
unfoldable pub GivesBack : Type 0
GivesBack = (s : Source) (o : Outcome) → Possible s o → unpacked (packed s o) ≡ answer_of s o

-- 'Different answers give different numbers': two equal numbers are one answer, whichever calls gave them.
unfoldable pub OneToOne : Type 0
OneToOne = (s t : Source) (o p : Outcome) → Possible s o → Possible t p → packed s o ≡ packed t p → answer_of s o ≡ answer_of t p

-- Of one call: one outcome.
unfoldable pub OneToOneOfOne : Type 0
OneToOneOfOne = (s : Source) (o p : Outcome) → Possible s o → Possible s p → packed s o ≡ packed s p → o ≡ p

-- Of different calls: the same refusal, and nothing else.
unfoldable pub AlikeWhereRefused : Type 0
AlikeWhereRefused =
    (s t : Source) (o p : Outcome) → Possible s o → Possible t p → packed s o ≡ packed t p → (s ≡ t → ⊥)
    → (n : ℕ) × (o ≡ refusal n) × (p ≡ refusal n)

-- Each part stands in its own bits, whatever the others are, and 64 bits hold them all.
unfoldable pub PartsApart : Type 0
PartsApart =
    (number refused mark window bits address : ℕ) → number < 2 ^ 8 → refused < 2 ^ 8 → mark < 2 ^ 8 → window < 2 ^ 8 → bits < 2 ^ 8 → address < 2 ^ 24
    → (number_in (parts number refused mark window bits address) ≡ number)
    × (refusal_in (parts number refused mark window bits address) ≡ refused)
    × (mark_in (parts number refused mark window bits address) ≡ mark)
    × (window_in (parts number refused mark window bits address) ≡ window)
    × (bits_in (parts number refused mark window bits address) ≡ bits)
    × (address_in (parts number refused mark window bits address) ≡ address)
    × (parts number refused mark window bits address < 2 ^ 64)

-- No answer is 0, so a number that no call gave is not taken for one.
unfoldable pub NeverZero : Type 0
NeverZero = (s : Source) (o : Outcome) → Possible s o → packed s o ≡ 0 → ⊥
