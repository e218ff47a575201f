-- The first records are unmarked, as many as were passed.
use Rattle.std.proofs.Common.{◌≡◌}
use Rattle.rollcall_table.proofs.Laws.{unmarked_to}
use Rattle.rollcall.proofs.changing.unmark_all.Given as goal

abbrev pub invariant-loop-r : goal.invariant-loop-r
invariant-loop-r l = l.records ≡ unmarked_to l.r-index l.fn.records
