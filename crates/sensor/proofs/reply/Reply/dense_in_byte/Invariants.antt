-- `sensor::reply::Reply::dense_in_byte` meets its contract. The loop's invariant: no place from `place` on is dense.
use mathlib.Core.Path.{◌≡◌}
use Prim.Native.Nat.{◌+◌, ◌≤◌}
use Rattle.sensor.specs.Verdicts.{dense_at, highest}
use Rattle.sensor.proofs.reply.Reply.dense_in_byte.Given as goal

abbrev pub invariant-loop-place : goal.invariant-loop-place
invariant-loop-place l =
    (l.place-start ≤ l.place) × (highest (dense_at l.self.marks.now l.limit) l.place ≡ highest (dense_at l.self.marks.now l.limit) (l.first + 1))
