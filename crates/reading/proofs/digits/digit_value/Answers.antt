-- `reading::digits::digit_value` meets its contract: one computed test over all 256 entries of the table. Tried without: the check
-- does not find that the table keeps its rule.
use Rattle.std.proofs.Common.{◌<◌, subst, sym, ap, ◌∙◌, arith}
use Rattle.reading.specs.Digits.{digit_value, is_decimal_digit, is_hex_digit}
use Rattle.reading.proofs.Values.{digit-value-lt}
use Rattle.outcome.proofs.Laws.{tabulate, tabulated}
use Rattle.reading.proofs.digits.digit_value.Goals as goal

pub returns : goal.returns
unfolding tabulate digit_value is_decimal_digit is_hex_digit
returns c =
    let entry = tabulated digit_value 256 c.from.result (omega (arith, c.from.ensures, c.ranges.b.fits)) ∙ ap digit_value c.from.ensures in
    record { value = entry; upper_bound = subst (λ v. v < 16) (sym entry) (digit-value-lt c.args.b) }
