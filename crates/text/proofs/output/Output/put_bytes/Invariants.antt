-- `text::output::Output::put_bytes`: the bytes so far have been appended.
use lib.ListN.{take}
use Rattle.text.specs.Output.{Appends}
use Rattle.text.proofs.output.Output.put_bytes.Given as goal

abbrev pub invariant-loop-b : goal.invariant-loop-b
invariant-loop-b l = Appends l.initial.self l.self (take l.b-index l.s)
