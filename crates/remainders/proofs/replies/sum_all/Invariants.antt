-- `remainders::replies::sum_all` meets its contract. The loop's invariant: the remainders of the first i replies are there.
use Rattle.remainders.proofs.Listing.{Divided}
use Rattle.remainders.proofs.replies.sum_all.Given as goal

abbrev pub invariant-loop-i : goal.invariant-loop-i
invariant-loop-i l = Divided l.replies l.i l.remainders
