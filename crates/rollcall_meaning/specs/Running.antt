-- Lists of calls on the roll-call table: every answer is that of a plain map with room for as many entries as the table has
-- records.
use Rattle.std.specs.Prelude.{ℕ, ◌≡◌, List, [], ◌∷◌, length}
use Rattle.outcome.specs.Outcomes.{Outcome}
use Rattle.rollcall_meaning.specs.Maps.{Call, Table, outcome, after, Entries, plain_outcome, plain_after}
use Rattle.rollcall_meaning.specs.Maps.Call.{clear}
use Rattle.rollcall_meaning.specs.Keeping.{RightLengths}

-- The answers of some calls, one after the other: on a table, and on a plain map.
unfoldable pub answers : List Call → Table → List Outcome
answers [] t = []
answers (c ∷ cs) t = outcome c t ∷ answers cs (after c t)

unfoldable pub plain_answers : ℕ → List Call → Entries → List Outcome
plain_answers r [] m = []
plain_answers r (c ∷ cs) m = plain_outcome r c m ∷ plain_answers r cs (plain_after r c m)

-- For every list of calls, refused and absent ones among them, from a cleared table.
unfoldable pub AnswersOfAPlainMap : Type 0
AnswersOfAPlainMap = (t : Table) (cs : List Call) → RightLengths t → answers cs (after clear t) ≡ plain_answers (length t.records) cs []
