-- `sensor::reply::Reply::highest_dense` meets its contract. The loop's invariant: no place of the bytes passed is dense.
use mathlib.Core.Path.{◌≡◌}
use Prim.Native.Nat.{suc, ◌+◌, ◌-◌, ◌*◌}
use Rattle.message.specs.Bits.{last_window}
use Rattle.sensor.specs.Verdicts.{dense_at, highest}
use Rattle.sensor.proofs.reply.Reply.highest_dense.Given as goal

abbrev pub invariant-loop-at : goal.invariant-loop-at
invariant-loop-at l =
    highest (dense_at l.self.marks.now l.limit) (last_window l.self.marks.now - 8 * l.at + 1)
    ≡ highest (dense_at l.self.marks.now l.limit) (suc (last_window l.self.marks.now))
