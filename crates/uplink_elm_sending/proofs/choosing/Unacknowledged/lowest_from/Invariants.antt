-- The lowest number from the first one on is the lowest of those that are left.
use Rattle.std.proofs.Common.{◌≡◌}
use Rattle.uplink_elm.specs.Segments.{is_held}
use Rattle.uplink_elm_sending.specs.Choosing.{lowest_from}
use Rattle.uplink_elm_sending.proofs.choosing.Unacknowledged.lowest_from.Given as goal

abbrev pub invariant-loop-n : goal.invariant-loop-n
invariant-loop-n l = lowest_from (is_held l.self.acknowledgement) l.self.count l.n ≡ lowest_from (is_held l.self.acknowledgement) l.self.count l.from
