-- What a caller knows of the answer.
use mathlib.Core.Path.{◌≡◌, sym, ◌∙◌}
use mathlib.Core.List.{List}
use Prim.Native.Nat.{ℕ}
use lib.ListN.{length}
use Rattle.outcome.specs.Outcomes.{done}
use Rattle.outcome.specs.Outcomes.Outcome.{answer}
use Rattle.outcome.specs.Refusals.{wrong_length}
use Rattle.outcome.proofs.Laws.{unless-answer, admission_injective}
use Rattle.outcome.specs.declared.Refusal.{Refusal}
use Rattle.std.specs.Prelude.{Result}
use Rattle.remainders.specs.Recording.{said, are_as_many, remainders_outcome}

-- a call that was answered was done
pub divided_done : (s : List ℕ) (k n : ℕ) (vs : List ℕ) → remainders_outcome s k ≡ answer n vs → remainders_outcome s k ≡ done
unfolding remainders_outcome
divided_done s k n vs e = e ∙ sym (unless-answer (are_as_many (length s) k) wrong_length done n vs e).1

-- different answers of the code are different answers of the paper
pub said_injective : (r s : Result Unit Refusal) → said r ≡ said s → r ≡ s
said_injective = admission_injective
