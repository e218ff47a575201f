-- `altitude_code::table::pattern` meets its contract: one computed test over all 1280 entries of the table.
-- Tried without: the check does not make that test alone, nor with `tabulated` and the definitions named.
use Rattle.altitude_code.specs.Gray.{gray}
use Rattle.altitude_code.specs.Codes.{binary, digit, c_pattern, in_order}
use Rattle.altitude_code.specs.Altitudes.{placed, code_by_100}
use Rattle.outcome.proofs.Laws.{tabulate, tabulated}
use Rattle.altitude_code.proofs.table.pattern.Goals as goal

pub returns : goal.returns
unfolding tabulate code_by_100 placed gray c_pattern in_order binary digit
returns c = tabulated code_by_100 1280 _ c.requires
