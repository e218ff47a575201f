-- `report::lines::write_lines`: what is left to append are the output lines of the lines left, numbered on, and the text
-- appended so far has at most 24 bytes for each byte read.
use mathlib.Core.Path.{◌≡◌}
use Prim.Native.Nat.{◌+◌, ◌*◌, ◌≤◌}
use lib.ListN.{length}
use Rattle.std.specs.Iterator.Adapters.{enumerate_source, enumerate_count}
use Rattle.reading.specs.Lines.{lines}
use Rattle.reading.proofs.Laws.{lines_size}
use Rattle.text.specs.Output.{append, place}
use Rattle.report.specs.Sift.{output_lines}
use Rattle.report.proofs.lines.write_lines.Given as goal

abbrev pub invariant-loop-index : goal.invariant-loop-index
invariant-loop-index l =
    let number = enumerate_count l.index-iterator + 1 in
    let left = lines (enumerate_source l.index-iterator).rest.now in
    (l.output.buffer.ghost_name ≡ l.initial.output.buffer.ghost_name)
    × (enumerate_count l.index-iterator + length left ≤ 65537)
    × (append (place l.output) (output_lines number left) ≡ append (place l.initial.output) (output_lines 1 (lines l.input)))
    × (length (output_lines 1 (lines l.input)) + 24 * lines_size left ≤ length (output_lines number left) + 24 * lines_size (lines l.input))
