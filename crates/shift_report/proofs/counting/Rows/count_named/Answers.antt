-- `shift_report::counting::Rows::count_named` meets its contract. Tried without: the check does not find what a filter counts alone, nor with a lemma of
-- that count named.
use mathlib.Core.Path.{ap, ◌∙◌}
use mathlib.Core.List.{List}
use Prim.Native.Nat.{ℕ}
use Rattle.std.proofs.Common.{Bor, rules}
use Rattle.std.proofs.lemmas.Iterator.Consumers.{YieldsList-from_first, count_from_yields_List, YieldsList-from_filter}
use Rattle.reading.specs.Lines.{lines}
use Rattle.reading.specs.declared.lines.Lines.{Lines}
use Rattle.shift_report.specs.Tally.{same_text, label}
use Rattle.shift_report.specs.Printed.{row_of}
use Rattle.shift_report.proofs.Counts.{length-filter_lines}
use Rattle.shift_report.proofs.counting.Rows.count_named.Goals as goal

pub returns : goal.returns
returns c =
    count_from_yields_List _ c.count.result c.count.ensures.ran
    (YieldsList-from_filter _ (λ (l : List ℕ). same_text (label (row_of l)) c.args.name.now)
    (YieldsList-from_first (λ (line : Bor (List ℕ)). line.now) (λ (s : Lines). lines s.rest.now) (lines c.args.self.text.now)
    (ap (λ (s : Lines). lines s.rest.now) c.filter.ensures.source ∙ ap lines c.new.ensures.whole))
    c.filter.ensures.closure (λ x b q k. search rules))
    ∙ length-filter_lines c.args.name.now c.args.self.text.now
