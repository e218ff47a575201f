-- How a test picks an answer: what a test that is passed, or failed, makes of the definition that picks by it, and back.
use mathlib.Core.Path.{◌≡◌, refl, sym, ap, ◌∙◌}
use mathlib.Core.Bool.{Bool, true, false}
use mathlib.Core.List.{List}
use Prim.Native.Nat.{ℕ}
use native.Mathlib.Omega.{arith}
use Rattle.std.specs.Prelude.{Result, Ok, Err, IsErrAnd}
use Rattle.outcome.specs.declared.Refusal.{Refusal}
use Rattle.outcome.proofs.Rows.{same_row}
use Rattle.outcome.specs.Refusals.{number_of}
use Rattle.outcome.specs.Outcomes.{Outcome, value, done, unless, said_by, admission, left, Unrefused}
use Rattle.outcome.specs.Outcomes.Outcome.{refusal, answer}

-- ---- different answers differ

pub refusal_is_no_answer : {n k : ℕ} {vs : List ℕ} → refusal n ≡ answer k vs → ⊥
refusal_is_no_answer e = let z : ◌≡◌ {A = ℕ} 0 1 = cc in omega arith

pub same_answer : {j k : ℕ} {us vs : List ℕ} → answer j us ≡ answer k vs → j ≡ k
same_answer e = cc

pub same-value : {v w : ℕ} → value v ≡ value w → v ≡ w
same-value e = cc

-- ---- from the test to the answer

pub refused : (t : Bool) (n : ℕ) (a : Outcome) → t ≡ false → refusal n ≡ unless t n a
refused t n a e = ap (λ (t : Bool). unless t n a) (sym e)

pub passed : (t : Bool) (n : ℕ) (a b : Outcome) → t ≡ true → a ≡ b → a ≡ unless t n b
passed t n a b e f = f ∙ ap (λ (t : Bool). unless t n b) (sym e)

pub passed_value : (t : Bool) (n v w : ℕ) → t ≡ true → v ≡ w → value v ≡ unless t n (value w)
passed_value t n v w e f = passed t n (value v) (value w) e (ap (λ (x : ℕ). value x) f)

pub unless_passed : (t : Bool) (n : ℕ) (a : Outcome) → t ≡ true → unless t n a ≡ a
unless_passed t n a e = ap (λ (t : Bool). unless t n a) e

-- ---- from the answer to the test

-- a call that was answered passed its test
pub unless-answer : (t : Bool) (n : ℕ) (a : Outcome) (r : ℕ) (vs : List ℕ) → unless t n a ≡ answer r vs → (t ≡ true) × (a ≡ answer r vs)
unless-answer true n a r vs e = (refl, e)
unless-answer false n a r vs e = absurd (refusal_is_no_answer e)

-- so did one that no row refuses
pub unless_unrefused : (t : Bool) (n : ℕ) (a : Outcome) → Unrefused (unless t n a) → (t ≡ true) × Unrefused a
unless_unrefused true n a f = (refl, f)
unless_unrefused false n a f = absurd (f n refl)

-- a refusal stays one where what it refuses is another, if that is refused alike
pub unless_refuses : (t : Bool) (n r : ℕ) (a b : Outcome) → (refusal r ≡ a → refusal r ≡ b) → refusal r ≡ unless t n a → refusal r ≡ unless t n b
unless_refuses true n r a b f e = f e
unless_refuses false n r a b f e = e

-- ---- what a row of a check says of the call that it was made for

pub passed_row : (t u : Bool) (n : ℕ) → done ≡ unless t n done → t ≡ u → u ≡ true
passed_row true u n e f = sym f
passed_row false u n e f = absurd (refusal_is_no_answer (sym e))

pub refused_row : (t u : Bool) (n r : ℕ) (a : Outcome) → refusal r ≡ unless t n done → t ≡ u → refusal r ≡ unless u n a
refused_row true u n r a e f = absurd (refusal_is_no_answer e)
refused_row false u n r a e f = e ∙ ap (λ (t : Bool). unless t n a) f

-- the same at the exit of the row's `?`
pub refused_at : {A : Type 0} (answered : A → Outcome) (r : Result A Refusal) (e : Refusal) (o : Outcome)
    → IsErrAnd r (λ d. d ≡ e) → refusal (number_of e) ≡ o → said_by answered r ≡ o
refused_at answered (Ok a) e o h f = absurd h
refused_at answered (Err d) e o h f = ap (λ (r : Refusal). refusal (number_of r)) h ∙ f

-- what a call by rows needs: name it on the function, as `#[tactic(auto, using(outcome::proofs::Laws::rows))]`
pub ruleset rows = (refused_row, refused_at, passed_row, unless_passed)

-- ---- different results of the code are different answers of the paper

same_refusal : {m n : ℕ} → refusal m ≡ refusal n → m ≡ n
same_refusal e = cc

-- the row that a call was refused by
pub refused_by : (t : Bool) (e r : Refusal) → refusal (number_of e) ≡ unless t (number_of r) done → (t ≡ false) × (e ≡ r)
refused_by true e r h = absurd (refusal_is_no_answer h)
refused_by false e r h = (refl, same_row e r (same_refusal h))

pub said_by_injective : {A : Type 0} (answered : A → Outcome) → ((a b : A) → answered a ≡ answered b → a ≡ b)
    → ((a : A) (n : ℕ) → refusal n ≡ answered a → ⊥)
    → (r s : Result A Refusal) → said_by answered r ≡ said_by answered s → r ≡ s
said_by_injective {A = A} answered same other (Ok a) (Ok b) e = ap (λ (x : A). Ok x) (same a b e)
said_by_injective answered same other (Ok a) (Err r) e = absurd (other a (number_of r) (sym e))
said_by_injective answered same other (Err r) (Ok b) e = absurd (other b (number_of r) e)
said_by_injective answered same other (Err r) (Err s) e =
    ap (λ (x : Refusal). Err x) (same_row r s (same_refusal e))

-- of a call that is only done
pub admission_injective : (r s : Result Unit Refusal) → admission r ≡ admission s → r ≡ s
admission_injective r s e = said_by_injective (λ _. done) (λ _ _ _. refl) (λ _ _. refusal_is_no_answer) r s e

-- ---- what a call leaves in a buffer

pub left_of : (o p : Outcome) (before after : List ℕ) → o ≡ p → left o before after ≡ left p before after
left_of o p before after e = ap (λ (q : Outcome). left q before after) e

pub left_refused : (o : Outcome) (n : ℕ) (before after : List ℕ) → refusal n ≡ o → before ≡ left o before after
left_refused o n before after e = ap (λ (q : Outcome). left q before after) e

pub left_done : (o : Outcome) (before after : List ℕ) → done ≡ o → after ≡ left o before after
left_done o before after e = ap (λ (q : Outcome). left q before after) e

-- what a call needs that checks first, and then writes
pub ruleset writing = (rows, left_refused, left_done)
