-- What a transponder makes of an interrogation (document 01, 'Transponder'; ATC-117, 3.1), with the broadcasts of document
-- 02, Point 2.
use Rattle.std.specs.Prelude.{ℕ, ◌≤◌, ◌≡◌, List, [], ◌∷◌, Bool, cond, not, ◌&&◌, ◌||◌, eqb, length, Result}
use Rattle.outcome.specs.Outcomes.{Outcome, unless, said_by}
use Rattle.outcome.specs.Outcomes.Outcome.{answer}
use Rattle.outcome.specs.declared.Refusal.{Refusal}
use Rattle.outcome.specs.Refusals.{wrong_length, word_too_large, first_bit_contradicts, own_address_reserved}
use Rattle.division.specs.Division.{address_read}
use Rattle.message.specs.Message.{number, format_number, is_message_length, first_bit_agrees, is_word}
use Rattle.transponder.specs.declared.Reception.{Reception}
use Rattle.transponder.specs.declared.Reception.TheVariants.{Own, AllCall, Broadcast, NotOurs}

-- The address that every transponder reads as sent to all (Annex 10 Volume IV).
abbrev pub everyone : ℕ
everyone = 0xFFFFFF

-- The format of a Mode S only all-call (Annex 10 Volume IV: UF 11).
abbrev pub all_call_format : ℕ
all_call_format = 11

-- The formats of a broadcast to all transponders (Annex 10 Volume IV: UF 20 and 21 with the address of all).
abbrev pub is_broadcast_format : ℕ → Bool
is_broadcast_format format = eqb format 20 || eqb format 21

-- What a Reception says: document 01's answers, numbered in the order of its list; not ours has the address read.
-- Broadcast, which that list has not, is 4.
abbrev pub answered : Reception → Outcome
answered Own = answer 1 []
answered AllCall = answer 2 []
answered Broadcast = answer 4 []
answered (NotOurs a) = answer 3 (a ∷ [])

-- What a call says: a Reception, or the refusal.
abbrev pub said : Result Reception Refusal → Outcome
said = said_by answered

-- The answer by the own address, the address read and the format number.
unfoldable pub reception_of : ℕ → ℕ → ℕ → Reception
reception_of own address format =
    cond (eqb address own) Own
    (cond (eqb address everyone && eqb format all_call_format) AllCall
    (cond (eqb address everyone && is_broadcast_format format) Broadcast
    (NotOurs address)))

-- The own address is neither 000000 nor FFFFFF (row 6).
unfoldable pub is_reserved : ℕ → Bool
is_reserved own = eqb own 0 || eqb own everyone

-- An own address to which neither row 3 nor row 6 applies.
unfoldable pub Permitted : ℕ → Type 0
Permitted own = (own ≤ 0xFFFFFF) × (own ≡ 0x000000 → ⊥) × (own ≡ 0xFFFFFF → ⊥)

-- What the transponder answers: rows 1, 3, 5 and 6 of the refusals, or what it makes of the address read.
unfoldable pub reception_outcome : ℕ → List ℕ → Outcome
reception_outcome own m =
    unless (is_message_length (length m)) wrong_length
    (unless (is_word own) word_too_large
    (unless (first_bit_agrees m) first_bit_contradicts
    (unless (not (is_reserved own)) own_address_reserved
    (answered (reception_of own (address_read (number m)) (format_number m))))))
