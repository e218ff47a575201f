-- `text::output::Output::put_hex`: the digits of the bytes so far have been appended.
use lib.ListN.{take}
use Rattle.text.specs.Digits.{hex_text}
use Rattle.text.specs.Output.{Appends}
use Rattle.text.proofs.output.Output.put_hex.Given as goal

abbrev pub invariant-loop-byte : goal.invariant-loop-byte
invariant-loop-byte l = Appends l.initial.self l.self (hex_text (take l.byte-index l.s))
