-- `stream::state::take_piece`: what is printed and held from here on is what is left of the piece's.
use mathlib.Core.Path.{◌≡◌}
use Prim.Native.Nat.{◌+◌, ◌*◌, ◌≤◌}
use lib.ListN.{length, drop}
use Rattle.text.specs.Output.{append, place}
use Rattle.stream.specs.Stream.{held, held_after, printed}
use Rattle.stream.proofs.state.take_piece.Given as goal

abbrev pub invariant-loop-b : goal.invariant-loop-b
invariant-loop-b l =
    let start = held l.start l.initial.line.buffer.now l.initial.line.taken in
    let now = held l.ended l.line.buffer.now l.line.taken in
    let left = drop l.b-index l.piece in
    (l.ended ≤ l.start + l.b-index)
    × (length l.line.buffer.now ≡ 68)
    × (l.line.buffer.ghost_name ≡ l.initial.line.buffer.ghost_name)
    × (l.output.buffer.ghost_name ≡ l.initial.output.buffer.ghost_name)
    × (append (place l.output) (printed now left) ≡ append (place l.initial.output) (printed start l.piece))
    × (held_after now left ≡ held_after start l.piece)
    × (length (printed start l.piece) + 24 * length now.1 ≤ 24 * length start.1 + 62 * l.b-index + length (printed now left))
