-- How the companion's answer splits by its tests. The idea: each answer has its condition (`Case`), and the definition picks the
-- one answer whose condition holds.
use mathlib.Core.Path.{◌≡◌, refl, sym, ap, ◌∙◌}
use mathlib.Core.Bool.{Bool, true, false, not, cond}
use mathlib.Core.List.{List}
use Prim.Native.Nat.{ℕ, ◌<◌, ◌≤◌}
use lib.Dec.{eqb, ltb}
use borrow.Author.Tests.{lt-ltb, le-ltb, ltb-true, ltb-false}
use Rattle.outcome.specs.Outcomes.{Outcome, unless, Unrefused}
use Rattle.outcome.specs.Outcomes.Outcome.{refusal, answer}
use Rattle.outcome.specs.Refusals.{word_too_large, own_address_reserved}
use Rattle.std.specs.Prelude.{Option, Some, None, Result, Ok, Err}
use Rattle.std.specs.Bool.{then_some}
use Rattle.outcome.specs.declared.Refusal.{Refusal}
use Rattle.outcome.specs.declared.Refusal.TheVariants.{WordTooLarge, OwnAddressReserved}
use Rattle.outcome.proofs.Laws.{never, refusal_is_no_answer, said_by_injective}
use Rattle.message.specs.Message.{is_word}
use Rattle.transponder.specs.Receptions.{is_reserved}
use Rattle.antennas.specs.Antennas.{chosen, chosen_of, choice_of, antenna_of, answered, said}
use Rattle.antennas.specs.declared.Antenna.{Antenna}
use Rattle.antennas.specs.declared.Antenna.TheVariants.{Upper, Lower}

-- ---- the answer by the two tests of the own address

module _ (own : ℕ) (upper : List ℕ) (p : ℕ) (lower : List ℕ) (q : ℕ) where
  -- the outcome is a chain of the two tests
  pub said-by-tests : unless (is_word own) word_too_large (unless (not (is_reserved own)) own_address_reserved (answered (choice_of own upper p lower q)))
      ≡ said (antenna_of own upper p lower q)
  unfolding antenna_of
  said-by-tests = by (is_word own) (is_reserved own)
    where
      by : (s t : Bool) → unless s word_too_large (unless (not t) own_address_reserved (answered (choice_of own upper p lower q)))
          ≡ said (cond s (cond t (Err OwnAddressReserved) (Ok (choice_of own upper p lower q))) (Err WordTooLarge))
      by true true = refl
      by true false = refl
      by false t = refl

  -- what is answered where no row refuses
  pub unrefused-choice : Unrefused (said (antenna_of own upper p lower q)) → Ok (choice_of own upper p lower q) ≡ antenna_of own upper p lower q
  unfolding antenna_of
  unrefused-choice = by (is_word own) (is_reserved own)
    where
      by : (s t : Bool) → Unrefused (said (cond s (cond t (Err OwnAddressReserved) (Ok (choice_of own upper p lower q))) (Err WordTooLarge)))
          → Ok (choice_of own upper p lower q) ≡ cond s (cond t (Err OwnAddressReserved) (Ok (choice_of own upper p lower q))) (Err WordTooLarge)
      by true true u = absurd (u own_address_reserved refl)
      by true false u = refl
      by false t u = absurd (u word_too_large refl)

-- ---- the answer by what is taken and the levels

-- the condition of each answer
abbrev pub Case : Bool → ℕ → Bool → ℕ → Option Antenna → Type 0
Case s p t q (Some Upper) = (s ≡ true) × (t ≡ true → q ≤ p)
Case s p t q (Some Lower) = (t ≡ true) × (s ≡ true → p < q)
Case s p t q None = (s ≡ true → ⊥) × (t ≡ true → ⊥)

-- of the answer given
pub case : (s : Bool) (p : ℕ) (t : Bool) (q : ℕ) → Case s p t q (chosen s p t q)
case true p true q = by (ltb p q) refl
  where
    by : (x : Bool) → ltb p q ≡ x → Case true p true q (cond x (Some Lower) (Some Upper))
    by true l = (refl, λ e. ltb-true p q l)
    by false l = (refl, λ e. ltb-false p q l)
case true p false q = (refl, λ e. absurd (never e refl))
case false p true q = (refl, λ e. absurd (never e refl))
case false p false q = ((λ e. never e refl), λ e. never e refl)

-- and of no other answer
pub case_only : (s : Bool) (p : ℕ) (t : Bool) (q : ℕ) (x : Option Antenna) → Case s p t q x → x ≡ chosen s p t q
case_only true p true q (Some Upper) h = sym (ap (λ (x : Bool). cond x (Some Lower) (Some Upper)) (le-ltb p q (h.1 refl)))
case_only true p true q (Some Lower) h = sym (ap (λ (x : Bool). cond x (Some Lower) (Some Upper)) (lt-ltb p q (h.1 refl)))
case_only true p false q (Some Upper) h = refl
case_only true p false q (Some Lower) h = absurd (never h.0 refl)
case_only false p true q (Some Upper) h = absurd (never h.0 refl)
case_only false p true q (Some Lower) h = refl
case_only false p false q (Some Upper) h = absurd (never h.0 refl)
case_only false p false q (Some Lower) h = absurd (never h.0 refl)
case_only false p false q None h = refl
case_only true p t q None h = absurd (h.0 refl)
case_only false p true q None h = absurd (h.1 refl)

-- ---- different answers of the code are different answers

-- what an answer was said for
abbrev unanswered : Outcome → Option Antenna
unanswered (refusal n) = None
unanswered (answer n vs) = cond (eqb n 1) (Some Upper) (cond (eqb n 2) (Some Lower) None)

unanswered-answered : (x : Option Antenna) → unanswered (answered x) ≡ x
unanswered-answered (Some Upper) = refl
unanswered-answered (Some Lower) = refl
unanswered-answered None = refl

pub no_refusal : (x : Option Antenna) (n : ℕ) → refusal n ≡ answered x → ⊥
no_refusal (Some Upper) n = refusal_is_no_answer
no_refusal (Some Lower) n = refusal_is_no_answer
no_refusal None n = refusal_is_no_answer

pub said_injective : (x y : Result (Option Antenna) Refusal) → said x ≡ said y → x ≡ y
said_injective =
    said_by_injective answered (λ x y e. sym (unanswered-answered x) ∙ ap unanswered e ∙ unanswered-answered y) no_refusal

-- ---- a level where the buffer is taken

pub levels : (s : Bool) (p : ℕ) (t : Bool) (q : ℕ) → chosen_of (then_some s p) (then_some t q) ≡ chosen s p t q
levels true p true q = refl
levels true p false q = refl
levels false p true q = refl
levels false p false q = refl
