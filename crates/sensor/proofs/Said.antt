-- Different verdicts of the code are different answers of the paper: each can be read back from its answer.
use mathlib.Core.Path.{◌≡◌, refl, sym, ap, ◌∙◌}
use mathlib.Core.Bool.{cond}
use mathlib.Core.List.{List}
use Prim.Native.Nat.{ℕ}
use lib.Dec.{eqb}
use lib.ListN.{get_or}
use Rattle.std.specs.Prelude.{Result}
use Rattle.outcome.specs.Outcomes.{Outcome}
use Rattle.outcome.specs.declared.Refusal.{Refusal}
use Rattle.outcome.proofs.Laws.{refusal_is_no_answer, said_by_injective}
use Rattle.outcome.specs.Outcomes.Outcome.{refusal, answer}
use Rattle.sensor.specs.Verdicts.{sole_mark, answered, said, mark_of}
use Rattle.sensor.specs.declared.Mark.{Mark}
use Rattle.sensor.specs.declared.Mark.TheVariants.{Sole, Several}
use Rattle.sensor.specs.declared.Correction.{Correction}
use Rattle.sensor.specs.declared.Verdict.{Verdict}
use Rattle.sensor.specs.declared.Verdict.TheVariants.{Clean, Dense, NoFit, Corrected}

abbrev mark_said : ℕ → Mark
mark_said n = cond (eqb n sole_mark) Sole Several

abbrev correction_said : List ℕ → Correction
correction_said vs = record { window = get_or vs 0 0; bits = get_or vs 1 0; mark = mark_said (get_or vs 2 0) }

-- what an answer of the paper was said for
abbrev unanswered : Outcome → Verdict
unanswered (refusal n) = Clean
unanswered (answer n vs) =
    cond (eqb n 1) Clean (cond (eqb n 2) (Dense (get_or vs 0 0)) (cond (eqb n 3) NoFit (Corrected (correction_said vs))))

mark-said : (k : Mark) → mark_said (mark_of k) ≡ k
mark-said Sole = refl
mark-said Several = refl

unanswered-answered : (v : Verdict) → unanswered (answered v) ≡ v
unanswered-answered Clean = refl
unanswered-answered (Dense w) = refl
unanswered-answered NoFit = refl
unanswered-answered (Corrected k) = ap (λ (m : Mark). Corrected (record { window = k.window; bits = k.bits; mark = m })) (mark-said k.mark)

no_refusal : (v : Verdict) (n : ℕ) → refusal n ≡ answered v → ⊥
no_refusal Clean n = refusal_is_no_answer
no_refusal (Dense w) n = refusal_is_no_answer
no_refusal NoFit n = refusal_is_no_answer
no_refusal (Corrected k) n = refusal_is_no_answer

pub said_injective : (s t : Result Verdict Refusal) → said s ≡ said t → s ≡ t
said_injective =
    said_by_injective answered (λ s t e. sym (unanswered-answered s) ∙ ap unanswered e ∙ unanswered-answered t) no_refusal
