-- What the calls of this library answer.
use Rattle.std.specs.Prelude.{ℕ, List, Bool, length, Result}
use Rattle.outcome.specs.Outcomes.{Outcome, value, unless, said_by}
use Rattle.outcome.specs.Refusals.{wrong_length, word_too_large}
use Rattle.division.specs.Division.{remainder, shift_in, backward, parity, overlay, address_read}
use Rattle.message.specs.Message.{number, bit_of, is_message_length, is_field_length, is_word}
use Rattle.outcome.specs.declared.Refusal.{Refusal}

-- What a call says: a word, or its refusal.
abbrev pub said : Result ℕ Refusal → Outcome
said = said_by (λ w. value w)

unfoldable pub register_answer : ℕ → Bool → Outcome
register_answer r b = unless (is_word r) word_too_large (value (shift_in 1 r (bit_of b)))

unfoldable pub backward_answer : ℕ → Outcome
backward_answer r = unless (is_word r) word_too_large (value (backward r))

unfoldable pub overlay_answer : ℕ → Outcome
overlay_answer a = unless (is_word a) word_too_large (value (overlay a))

-- R of a field, whichever of the three ways it is got
unfoldable pub parity_answer : List ℕ → Outcome
parity_answer f = unless (is_field_length (length f)) wrong_length (value (parity (number f)))

unfoldable pub remainder_answer : List ℕ → Outcome
remainder_answer m = unless (is_message_length (length m)) wrong_length (value (remainder (number m)))

unfoldable pub address_answer : List ℕ → Outcome
address_answer m = unless (is_message_length (length m)) wrong_length (value (address_read (number m)))
