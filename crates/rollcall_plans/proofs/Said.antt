-- Different answers of the code are different answers of the paper: what was said can be read back, the record found whole.
use mathlib.Core.Path.{◌≡◌, refl, sym, ap, ◌∙◌}
use mathlib.Core.Bool.{Bool, true, false, cond}
use Prim.Native.Nat.{ℕ, zero, suc}
use lib.Dec.{eqb}
use lib.IntN.{ℤ, pos, negsuc}
use Rattle.std.specs.Prelude.{Some, None, Result}
use Rattle.outcome.specs.declared.Refusal.{Refusal}
use lib.ListN.{get_or}
use Rattle.outcome.specs.Outcomes.{Outcome}
use Rattle.outcome.specs.Outcomes.Outcome.{refusal, answer}
use Rattle.outcome.proofs.Laws.{refusal_is_no_answer, said_by_injective}
use Rattle.rollcall_table.specs.declared.Grade.{Grade}
use Rattle.rollcall_table.specs.declared.Grade.TheVariants.{Clean, Sole, Several}
use Rattle.rollcall_table.specs.Table.{Altitude}
use Rattle.rollcall_table.specs.Standing.{grade_number}
use Rattle.rollcall_plans.specs.declared.Rolled.{Rolled}
use Rattle.rollcall_plans.specs.declared.Rolled.TheVariants as R
use Rattle.rollcall_plans.specs.Calls.{told, said, found}

negative : ℕ → ℤ
negative zero = pos zero
negative (suc n) = negsuc n

altitude_by : ℕ → ℕ → ℕ → Altitude
altitude_by k s n = cond (eqb k 1) (Some (cond (eqb s 1) (negative n) (pos n))) None

grade_by : ℕ → Grade
grade_by n = cond (eqb n 0) Clean (cond (eqb n 1) Sole Several)

grade_back : (g : Grade) → grade_by (grade_number g) ≡ g
unfolding grade_by
grade_back Clean = refl
grade_back Sole = refl
grade_back Several = refl

-- what an answer of the paper was told for
abbrev untold : Outcome → Rolled
untold (refusal n) = R.Cleared
untold (answer n vs) =
    cond (eqb n 0) R.Cleared
    (cond (eqb n 1) R.Added
    (cond (eqb n 2) R.Renewed
    (cond (eqb n 3) R.Removed
    (cond (eqb n 4) (R.Found (record { live = eqb (get_or vs 0 0) 1; address = get_or vs 1 0; altitude = altitude_by (get_or vs 4 0) (get_or vs 5 0) (get_or vs 6 0); time = get_or vs 2 0; grade = grade_by (get_or vs 3 0) }))
    (cond (eqb n 5) R.Absent R.Held)))))

untold-told : (z : Rolled) → untold (told z) ≡ z
unfolding altitude_by negative
untold-told R.Cleared = refl
untold-told R.Added = refl
untold-told R.Renewed = refl
untold-told R.Removed = refl
untold-told (R.Found r) = by r.live r.altitude ∙ ap (λ (g : Grade). R.Found (record { live = r.live; address = r.address; altitude = r.altitude; time = r.time; grade = g })) (grade_back r.grade)
  where
    by : (l : Bool) (z : Altitude)
        → untold (found (record { live = l; address = r.address; altitude = z; time = r.time; grade = r.grade }))
        ≡ R.Found (record { live = l; address = r.address; altitude = z; time = r.time; grade = grade_by (grade_number r.grade) })
    by true (Some (pos n)) = refl
    by true (Some (negsuc n)) = refl
    by true None = refl
    by false (Some (pos n)) = refl
    by false (Some (negsuc n)) = refl
    by false None = refl
untold-told R.Absent = refl
untold-told R.Held = refl

told_injective : (y z : Rolled) → told y ≡ told z → y ≡ z
told_injective y z e = sym (untold-told y) ∙ ap untold e ∙ untold-told z

-- no answer is told as a refusal
told_is_no_refusal : (z : Rolled) (n : ℕ) → refusal n ≡ told z → ⊥
told_is_no_refusal R.Cleared n e = refusal_is_no_answer e
told_is_no_refusal R.Added n e = refusal_is_no_answer e
told_is_no_refusal R.Renewed n e = refusal_is_no_answer e
told_is_no_refusal R.Removed n e = refusal_is_no_answer e
told_is_no_refusal (R.Found r) n e = refusal_is_no_answer e
told_is_no_refusal R.Absent n e = refusal_is_no_answer e
told_is_no_refusal R.Held n e = refusal_is_no_answer e

pub said_injective : (y z : Result Rolled Refusal) → said y ≡ said z → y ≡ z
said_injective = said_by_injective told told_injective told_is_no_refusal
