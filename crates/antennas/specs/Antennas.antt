-- Which of two received buffers is taken, and the part that is returned (document 02, Point 5).
use Rattle.std.specs.Prelude.{ℕ, Bool, true, false, cond, ◌||◌, List, [], eqb, ltb, Option, Some, None, Result, Ok, Err}
use Rattle.outcome.specs.Outcomes.{Outcome, said_by}
use Rattle.outcome.specs.Outcomes.Outcome.{refusal, answer}
use Rattle.outcome.specs.declared.Refusal.{Refusal}
use Rattle.outcome.specs.declared.Refusal.TheVariants.{WordTooLarge, OwnAddressReserved}
use Rattle.message.specs.Message.{field, is_word}
use Rattle.transponder.specs.Receptions.{is_reserved, reception_outcome}
use Rattle.antennas.specs.declared.Antenna.{Antenna}
use Rattle.antennas.specs.declared.Antenna.TheVariants.{Upper, Lower}

-- 'A buffer is taken when the transponder would accept it as own, all-call or broadcast': its answers 1, 2 and 4. 'A buffer
-- that would be refused is simply not taken.'
abbrev pub is_taken : Outcome → Bool
is_taken (refusal n) = false
is_taken (answer n vs) = eqb n 1 || (eqb n 2 || eqb n 4)

-- 'If both are, the higher level wins, and equal levels give the upper.'
abbrev pub chosen : Bool → ℕ → Bool → ℕ → Option Antenna
chosen true p true q = cond (ltb p q) (Some Lower) (Some Upper)
chosen true p false q = Some Upper
chosen false p true q = Some Lower
chosen false p false q = None

-- The same of the levels of the buffers that are taken.
abbrev pub chosen_of : Option ℕ → Option ℕ → Option Antenna
chosen_of (Some p) (Some q) = chosen true p true q
chosen_of (Some p) None = Some Upper
chosen_of None (Some q) = Some Lower
chosen_of None None = None

-- The answer for an own address that no row refuses: by the own address, the upper buffer and its level p, the lower
-- buffer and its level q.
abbrev pub choice_of : ℕ → List ℕ → ℕ → List ℕ → ℕ → Option Antenna
choice_of own upper p lower q = chosen (is_taken (reception_outcome own upper)) p (is_taken (reception_outcome own lower)) q

-- 'A companion call with the same inputs answers upper, lower or neither, or refusal 3 or 6 for the own address'.
unfoldable pub antenna_of : ℕ → List ℕ → ℕ → List ℕ → ℕ → Result (Option Antenna) Refusal
antenna_of own upper p lower q =
    cond (is_word own)
    (cond (is_reserved own) (Err OwnAddressReserved)
    (Ok (choice_of own upper p lower q)))
    (Err WordTooLarge)

-- What it says. Point 5 numbers no answers: upper, lower and neither are 1, 2 and 3.
abbrev pub answered : Option Antenna → Outcome
answered (Some Upper) = answer 1 []
answered (Some Lower) = answer 2 []
answered None = answer 3 []

abbrev pub said : Result (Option Antenna) Refusal → Outcome
said = said_by answered

-- A buffer, or a part of one: where it starts (the block of memory, and the place in it), and its bytes.
abbrev pub Part : Type 0
Part = (ℕ × ℕ) × List ℕ

-- Its field bytes as a part of it, and the empty part, both from its start on.
abbrev pub field_of : Part → Part
field_of b = (b.0, field b.1)

abbrev pub empty_of : Part → Part
empty_of b = (b.0, [])

-- The part that is returned, by the companion's answer: 'If one is taken, return its field bytes as a part of that caller's
-- buffer.' 'If neither is, return the empty part of the upper buffer.' 'where it refuses, the part is the empty one'
abbrev pub part_of : Result (Option Antenna) Refusal → Part → Part → Part
part_of (Ok (Some Upper)) upper lower = field_of upper
part_of (Ok (Some Lower)) upper lower = field_of lower
part_of (Ok None) upper lower = empty_of upper
part_of (Err r) upper lower = empty_of upper
