-- The columns are those that the iterator has given.
use Rattle.std.proofs.Common.{◌≡◌}
use Rattle.console.proofs.lines.columns.Given as goal

abbrev pub invariant-loop-column : goal.invariant-loop-column
invariant-loop-column l = l.columns.items ≡ l.yielded
