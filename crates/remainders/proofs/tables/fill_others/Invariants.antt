-- `remainders::tables::fill_others` meets its contract. The loop's invariant: every entry from `at` on is there.
use Rattle.remainders.proofs.Filling.{FilledFrom}
use Rattle.remainders.proofs.tables.fill_others.Given as goal

abbrev pub invariant-loop-at : goal.invariant-loop-at
invariant-loop-at l = FilledFrom l.at l.tables
