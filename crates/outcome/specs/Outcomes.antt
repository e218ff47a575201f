-- What a call answers, in the terms of document 01, and what it leaves in a lent buffer.
use Rattle.std.specs.Prelude.{ℕ, ◌≡◌, List, [], ◌∷◌, Bool, true, false, Result, Ok, Err}
use Rattle.outcome.specs.Refusals.{number_of}
use Rattle.outcome.specs.declared.Refusal.{Refusal}

-- An answer of any public call: the number of the refusal, or the paper's number of the answer (0 where an answer has
-- none) with its values in the paper's order.
pub data Outcome : Type 0 where
  refusal : ℕ → Outcome
  answer : ℕ → List ℕ → Outcome

-- The answer of a call that only gives a value, and of one that only says that it is done.
abbrev pub value : ℕ → Outcome
value v = answer 0 (v ∷ [])

abbrev pub done : Outcome
done = answer 0 []

-- The refusal n unless the test is passed.
abbrev pub unless : Bool → ℕ → Outcome → Outcome
unless true n a = a
unless false n a = refusal n

-- What a call's result says, where `answered` says it of the value: a refusal by its number in the table.
abbrev pub said_by : {A : Type 0} → (A → Outcome) → Result A Refusal → Outcome
said_by answered (Ok a) = answered a
said_by answered (Err r) = refusal (number_of r)

-- What a check of a call says, and every call that only says that it is done.
abbrev pub admission : Result Unit Refusal → Outcome
admission = said_by (λ _. done)

-- What a call leaves in a buffer: where it was refused, what stood there before.
abbrev pub left : Outcome → List ℕ → List ℕ → List ℕ
left (refusal n) before after = before
left (answer n vs) before after = after

-- No row of the table of refusals refuses the call.
abbrev pub Unrefused : Outcome → Type 0
Unrefused o = (n : ℕ) → o ≡ refusal n → ⊥
