-- `roster::answers::put_list`: the buffer has its length at each item.
use mathlib.Core.Path.{◌≡◌}
use lib.ListN.{length}
use Rattle.roster.proofs.answers.put_list.Given as goal

abbrev pub invariant-loop-i : goal.invariant-loop-i
invariant-loop-i g l = length l.out.buffer.now ≡ length l.initial.out.buffer.now
