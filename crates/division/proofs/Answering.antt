-- What a caller knows of a result: a call within the rules is answered with its value.
use mathlib.Core.Path.{◌≡◌}
use mathlib.Core.Bool.{true}
use mathlib.Core.List.{List}
use Prim.Native.Nat.{ℕ, ◌<◌, ◌^◌}
use lib.ListN.{length}
use Rattle.outcome.specs.Outcomes.{value}
use Rattle.outcome.specs.Refusals.{wrong_length, word_too_large}
use Rattle.outcome.proofs.Laws.{refusal_is_no_answer, same-value, unless_passed, said_by_injective}
use Rattle.message.specs.Message.{number, is_message_length, is_field_length, is_word}
use Rattle.message.proofs.Laws.{lt-word}
use Rattle.division.specs.Division.{remainder, backward, parity, overlay, address_read}
use Rattle.division.specs.Answers.{said, parity_answer, remainder_answer, address_answer, overlay_answer, backward_answer}
use Rattle.outcome.specs.declared.Refusal.{Refusal}
use Rattle.std.specs.Prelude.{Result, Ok}

-- ---- different results of the code are different answers of the paper

pub said_injective : (r s : Result ℕ Refusal) → said r ≡ said s → r ≡ s
said_injective = said_by_injective (λ w. value w) (λ _ _ e. same-value e) (λ _ _. refusal_is_no_answer)

-- ---- the value of an answer

pub value_is : (r : Result ℕ Refusal) (x : ℕ) → said r ≡ value x → r ≡ Ok x
value_is r x e = said_injective r (Ok x) e

pub parity-value : (f : List ℕ) → is_field_length (length f) ≡ true → parity_answer f ≡ value (parity (number f))
unfolding parity_answer
parity-value f e = unless_passed (is_field_length (length f)) wrong_length (value (parity (number f))) e

pub remainder-value : (m : List ℕ) → is_message_length (length m) ≡ true → remainder_answer m ≡ value (remainder (number m))
unfolding remainder_answer
remainder-value m e = unless_passed (is_message_length (length m)) wrong_length (value (remainder (number m))) e

pub address_value : (m : List ℕ) → is_message_length (length m) ≡ true → address_answer m ≡ value (address_read (number m))
unfolding address_answer
address_value m e = unless_passed (is_message_length (length m)) wrong_length (value (address_read (number m))) e

pub overlay-value : (a : ℕ) → a < 2 ^ 24 → overlay_answer a ≡ value (overlay a)
unfolding overlay_answer
overlay-value a h = unless_passed (is_word a) word_too_large (value (overlay a)) (lt-word a h)

pub backward-value : (r : ℕ) → r < 2 ^ 24 → backward_answer r ≡ value (backward r)
unfolding backward_answer
backward-value r h = unless_passed (is_word r) word_too_large (value (backward r)) (lt-word r h)
