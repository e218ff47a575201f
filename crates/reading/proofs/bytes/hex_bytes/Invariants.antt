-- `reading::bytes::hex_bytes`: what is left to append is what the pairs left write.
use mathlib.Core.Path.{◌≡◌}
use Rattle.std.specs.Slice.Iter.{chunks_exact_rest, chunks_exact_size}
use Rattle.text.specs.Output.{append, place}
use Rattle.reading.specs.Digits.{hex_bytes}
use Rattle.reading.proofs.bytes.hex_bytes.Given as goal

abbrev pub invariant-loop-pair : goal.invariant-loop-pair
invariant-loop-pair l =
    (l.output.buffer.ghost_name ≡ l.initial.output.buffer.ghost_name)
    × (chunks_exact_size l.pair-iterator ≡ 2)
    × (append (place l.output) (hex_bytes (chunks_exact_rest l.pair-iterator)) ≡ append (place l.initial.output) (hex_bytes l.s))
