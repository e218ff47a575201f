-- The remainders of a recording of long replies (document 02, Point 13: 'A recording of one million long replies').
use Rattle.std.specs.Prelude.{ℕ, zero, suc, ◌*◌, ◌<◌, ◌≡◌, Bool, List, [], ◌∷◌, eqb, length, get_or, take, drop, Result}
use Rattle.outcome.specs.Outcomes.{Outcome, value, done, unless, left, admission}
use Rattle.outcome.specs.Refusals.{wrong_length}
use Rattle.message.specs.Message.{number}
use Rattle.division.specs.Division.{remainder}
use Rattle.division.specs.Answers.{remainder_answer}
use Rattle.outcome.specs.declared.Refusal.{Refusal}

-- What a call says: that it is done, or its refusal.
abbrev pub said : Result Unit Refusal → Outcome
said = admission

-- So many replies of 14 bytes each have so many bytes.
unfoldable pub are_as_many : ℕ → ℕ → Bool
are_as_many bytes count = eqb bytes (14 * count)

-- The remainder of the first 14 bytes, then of the next 14, and so on, for so many replies.
unfoldable pub remainders_of : List ℕ → ℕ → List ℕ
remainders_of s zero = []
remainders_of s (suc n) = remainder (number (take 14 s)) ∷ remainders_of (drop 14 s) n

-- The call: 1, where the bytes are not 14 for each word of the lent buffer, and then no word is written.
unfoldable pub remainders_outcome : List ℕ → ℕ → Outcome
remainders_outcome s n = unless (are_as_many (length s) n) wrong_length done

unfoldable pub remainders_after : List ℕ → List ℕ → List ℕ
remainders_after s words = left (remainders_outcome s (length words)) words (remainders_of s (length words))

-- ---- the statement

-- Each word is what the division of its reply alone would answer, the first 14 bytes being reply 0; there is one for each reply.
unfoldable pub EachAlone : Type 0
EachAlone =
    (s : List ℕ) (n : ℕ) → length s ≡ 14 * n
    → (length (remainders_of s n) ≡ n)
    × ((i : ℕ) → i < n → remainder_answer (take 14 (drop (14 * i) s)) ≡ value (get_or (remainders_of s n) i 0))
