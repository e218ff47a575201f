-- `console::lines::columns` meets its contract: what the splitting iterator gives are the columns of the definition. Tried
-- without: the check finds neither the step nor the end, which go by the iterator's laws for its closure.
use Rattle.std.proofs.Common.{◌≡◌, ℕ, ◌∷◌, List, [], eqb, cond, map, rules, arith, ◌<◌, length, ap, ◌∙◌, refl}
use Rattle.std.proofs.lemmas.Iterator.{YieldsList-from_take}
use Rattle.std.proofs.lemmas.Iterator.Consumers.{YieldsList-turn, YieldsList-end}
use Rattle.std.proofs.lemmas.Iterator.Splits.{YieldsList-from_slice_split}
use Rattle.std.specs.List.{slice_split, onto_first}
use Rattle.reading.specs.Lines.{columns, in_first}
use borrow.Author.Tests.{tests}
use Rattle.std.proofs.lemmas.Grind.{common_steps}
use Rattle.console.proofs.lines.columns.Goals as goal

in_first-onto_first : (b : ℕ) (ps : List (List ℕ)) → onto_first b ps ≡ in_first b ps
in_first-onto_first b [] = refl
in_first-onto_first b (p ∷ ps) = refl

slice_split-columns : (s : List ℕ) → slice_split (λ b. eqb b 32) s ≡ columns s
unfolding columns
slice_split-columns [] = refl
slice_split-columns (b ∷ s) = rw (slice_split-columns s) (ap (λ l. cond (eqb b 32) ([] ∷ columns s) l) (in_first-onto_first b (columns s)))

pub loop-column-preserved : goal.loop-column-preserved
loop-column-preserved c =
    let road = YieldsList-from_take 8 (YieldsList-from_slice_split _ (λ b. eqb b 32) c.args.line.now (cc) (cc) (cc) (λ x b q k. search (rules, tests))) (cc) in
    let t = YieldsList-turn road c.loop-column.yielded _ c.loop-column.yielded_by _ _ c.in-Some.column c.in-Some.is c.next.ensures.steps in
    let room : length c.loop-column.columns.items < 8 = grind (arith, common_steps) in
    grind (arith, common_steps)

pub returns : goal.returns
returns c =
    let road = YieldsList-from_take 8 (YieldsList-from_slice_split _ (λ b. eqb b 32) c.args.line.now (cc) (cc) (cc) (λ x b q k. search (rules, tests))) (cc) in
    let t = YieldsList-end road c.loop-column.yielded _ c.loop-column.yielded_by _ _ c.in-None.is c.next.ensures.steps in
    let e = slice_split-columns c.args.line.now in
    rw (← e) (ap (map (λ c. c.now)) c.loop-column.invariant ∙ t.0)
