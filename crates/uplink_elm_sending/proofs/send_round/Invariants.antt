-- What the loop keeps: the bytes written, and behind them the transmissions that are left, are those of the round.
use mathlib.Core.Path.{◌≡◌}
use mathlib.Core.List.{◌++◌}
use Prim.Native.Nat.{◌-◌, ◌*◌, ◌≤◌}
use lib.ListN.{length, take}
use Rattle.uplink_elm.specs.Segments.{is_held}
use Rattle.uplink_elm_sending.specs.Sending.{transmissions, round_numbers}
use Rattle.uplink_elm_sending.proofs.Numbers.{left_of_round}
use Rattle.uplink_elm_sending.proofs.send_round.Given as goal

abbrev pub invariant-loop-i : goal.invariant-loop-i
invariant-loop-i l =
    (l.from ≤ l.missing.count) × (length l.out ≡ length l.initial.out)
    × (take (l.i * 14) l.out ++ transmissions l.address 1 l.segments (left_of_round (is_held l.missing.acknowledgement) l.missing.count l.from (l.n - l.i)) ≡ transmissions l.address 1 l.segments (round_numbers l.missing.acknowledgement l.missing.count l.n))
