-- `division::byte_table::by_byte_table` meets its contract. The loop's invariant: the register after the bytes that are
-- left will be the register after the field.
use mathlib.Core.Path.{◌≡◌}
use lib.ListN.{drop}
use Rattle.division.specs.Ways.{table_way}
use Rattle.division.proofs.byte_table.by_byte_table.Given as goal

abbrev pub invariant-loop-byte : goal.invariant-loop-byte
invariant-loop-byte l = table_way l.state.word (drop l.byte-index l.field) ≡ table_way 0 l.field
