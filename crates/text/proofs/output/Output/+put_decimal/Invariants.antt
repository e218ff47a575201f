-- `text::output::Output::put_decimal` calls itself on a number that is less.
use Rattle.text.proofs.output.Output.+put_decimal.Given as goal

abbrev pub decreases-put_decimal : goal.decreases-put_decimal
decreases-put_decimal l = l.n
