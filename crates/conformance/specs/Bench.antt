-- The bench values of document 01 that are marked P, as rows of one table: what the definitions that the contracts name
-- give, and what document 01 states.
use Rattle.std.specs.Prelude.{ℕ, ◌≡◌, List, [], ◌∷◌, map}
use Rattle.outcome.specs.Outcomes.{Outcome}
use Rattle.division.specs.Answers.{parity_answer}
use Rattle.outcome.specs.Outcomes.Outcome.{answer}
use Rattle.message.specs.Message.{number, parity_field}
use Rattle.encoder.specs.Seals.{reply_after, interrogation_after}
use Rattle.transponder.specs.Receptions.{reception_outcome}

pub record BenchRow : Type 0 where
  pub computed : Outcome
  pub stated : Outcome

abbrev pub bench_row : Outcome → Outcome → BenchRow
bench_row c s = record { computed = c; stated = s }

-- a 24-bit word as an answer; the parity field of a message after a call; and 'not ours' with the address read
abbrev pub word : ℕ → Outcome
word w = answer 0 (w ∷ [])

abbrev pub parity_after : List ℕ → Outcome
parity_after m = word (number (parity_field m))

abbrev pub not_ours : ℕ → Outcome
not_ours a = answer 3 (a ∷ [])

unfoldable pub bench_table : List BenchRow
bench_table =
    bench_row (parity_answer (0x00 ∷ 0x00 ∷ 0x00 ∷ 0x00 ∷ [])) (word 0x000000)
    ∷ bench_row (parity_answer (0x00 ∷ 0x00 ∷ 0x00 ∷ 0x01 ∷ [])) (word 0xFFF409)
    ∷ bench_row (parity_answer (0x00 ∷ 0x00 ∷ 0x00 ∷ 0x02 ∷ [])) (word 0x001C1B)
    ∷ bench_row (parity_answer (0x00 ∷ 0x00 ∷ 0x00 ∷ 0x03 ∷ [])) (word 0xFFE812)
    ∷ bench_row (parity_answer (0x00 ∷ 0x00 ∷ 0x80 ∷ 0x00 ∷ [])) (word 0xF91024)
    ∷ bench_row (parity_after (reply_after (0x00 ∷ 0x00 ∷ 0x80 ∷ 0x00 ∷ 0x00 ∷ 0x00 ∷ 0x00 ∷ []) 0x123456)) (word 0xEB2472)
    ∷ bench_row (parity_after (interrogation_after (0x00 ∷ 0x00 ∷ 0x00 ∷ 0x00 ∷ 0x00 ∷ 0x00 ∷ 0x00 ∷ []) 0x000002)) (word 0x000003)
    ∷ bench_row (parity_after (interrogation_after (0x00 ∷ 0x00 ∷ 0x00 ∷ 0x00 ∷ 0x00 ∷ 0x00 ∷ 0x00 ∷ []) 0x000003)) (word 0x000002)
    ∷ bench_row (parity_after (interrogation_after (0x00 ∷ 0x00 ∷ 0x00 ∷ 0x00 ∷ 0x00 ∷ 0x00 ∷ 0x00 ∷ []) 0x800000)) (word 0xFFFA04)
    ∷ bench_row (parity_after (interrogation_after (0x00 ∷ 0x00 ∷ 0x00 ∷ 0x00 ∷ 0x00 ∷ 0x00 ∷ 0x00 ∷ []) 0xFFFFFF)) (word 0xAAAC07)
    ∷ bench_row (reception_outcome 0x123456 (0x00 ∷ 0x00 ∷ 0x00 ∷ 0x00 ∷ 0x00 ∷ 0x00 ∷ 0x03 ∷ [])) (not_ours 0x000002)
    ∷ bench_row (reception_outcome 0x123456 (0x00 ∷ 0x00 ∷ 0x00 ∷ 0x00 ∷ 0xAA ∷ 0xAC ∷ 0x07 ∷ [])) (not_ours 0xFFFFFF)
    ∷ []

unfoldable pub BenchHolds : Type 0
BenchHolds = map (λ (r : BenchRow). r.computed) bench_table ≡ map (λ (r : BenchRow). r.stated) bench_table
