-- The whole list is in order exactly where what is left is, from the least address on that may follow.
use Rattle.std.proofs.Common.{◌≡◌, drop}
use Rattle.rollcall_table.specs.Table.{in_order}
use Rattle.rollcall_table.proofs.table.Table.is_in_order.Given as goal

abbrev pub invariant-loop-place : goal.invariant-loop-place
invariant-loop-place l = in_order l.self.records.now l.least (drop l.place-index l.place-items) ≡ in_order l.self.records.now 0 l.place-items
