-- The numbers that were passed are held.
use Rattle.std.proofs.Common.{◌≡◌, true}
use Rattle.uplink_elm.specs.Segments.{is_held, all_below}
use Rattle.uplink_elm.proofs.holding.all_held.Given as goal

abbrev pub invariant-loop-n : goal.invariant-loop-n
invariant-loop-n l = all_below (is_held l.held) l.n ≡ true
