-- `division::words::number_of` meets its contract. The loop's invariant: the number of the bytes so far.
use mathlib.Core.Path.{◌≡◌}
use lib.ListN.{take}
use Rattle.message.specs.Message.{number}
use Rattle.division.proofs.words.number_of.Given as goal

abbrev pub invariant-loop-byte : goal.invariant-loop-byte
invariant-loop-byte l = l.number ≡ number (take l.byte-index l.bytes)
