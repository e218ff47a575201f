-- What is checked of a table at every call but clear, and the count after a new address.
use Rattle.std.specs.Prelude.{ℕ, ◌+◌, Bool, cond, ltb}
use Rattle.outcome.specs.Outcomes.{Outcome, done, unless}
use Rattle.outcome.specs.Refusals.{word_too_large, table_unsound}
use Rattle.message.specs.Message.{is_word}
use Rattle.rollcall_table.specs.Table.{largest}

-- Rows 3 and 8, where a is the address: the word is asked first.
abbrev pub verdict_of : Bool → ℕ → Outcome
verdict_of sound a = unless (is_word a) word_too_large (unless sound table_unsound done)

-- The count raised by one, up to the largest length.
abbrev pub raised_of : ℕ → ℕ
raised_of n = cond (ltb n largest) (n + 1) n
