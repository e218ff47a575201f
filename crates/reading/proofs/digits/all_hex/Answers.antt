-- `reading::digits::all_hex` meets its contract. Tried without: the check does not find what a fold of tests gives alone, nor with
-- a lemma of that fold named.
use Rattle.std.proofs.Common.{rules, ◌∙◌}
use mathlib.Core.Bool.{true, ◌&&◌}
use Rattle.std.proofs.lemmas.Iterator.{YieldsList-from_slice}
use Rattle.std.proofs.lemmas.Iterator.Consumers.{fold_from_yields_List}
use Rattle.reading.specs.Digits.{is_hex_digit}
use Rattle.reading.proofs.Values.{fold-all}
use Rattle.reading.proofs.digits.all_hex.Goals as goal

pub returns : goal.returns
unfolding is_hex_digit
returns c =
    fold_from_yields_List _ (λ so_far b. so_far && is_hex_digit b) true c.fold.result c.fold.ensures.ran (YieldsList-from_slice _ c.iter.ensures.rest)
    (λ a x b q k. search rules)
    ∙ fold-all is_hex_digit true c.args.s.now
