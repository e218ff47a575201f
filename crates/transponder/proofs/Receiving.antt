-- How the transponder's definitions split: the outcome by its tests, and the answer by the address read and the format. The
-- idea: each answer has its condition (`Case`), some answer's condition holds of any address and format, and the definition
-- picks an answer whose condition holds.
use mathlib.Core.Path.{◌≡◌, refl, sym, ap, ap₂, ◌∙◌}
use mathlib.Core.Bool.{Bool, true, false, not, cond, ◌&&◌, ◌||◌}
use mathlib.Core.Logic.{◌⊎◌, inl, inr}
use mathlib.Core.List.{List}
use Prim.Native.Nat.{ℕ, ◌<◌, ◌^◌}
use native.Mathlib.Omega.{arith}
use lib.Dec.{eqb}
use lib.ListN.{length, get_or}
use Rattle.std.proofs.lemmas.Bool.Decides.{nat_tests}
use borrow.Author.Tests.{eq-eqb, ne_eqb, eqb-true, eqb-false, not-true}
use Rattle.outcome.specs.Outcomes.{Outcome, unless, Unrefused}
use Rattle.outcome.specs.Outcomes.Outcome.{refusal, answer}
use Rattle.std.specs.Prelude.{Result}
use Rattle.outcome.specs.declared.Refusal.{Refusal}
use Rattle.outcome.specs.Refusals.{wrong_length, word_too_large, first_bit_contradicts, own_address_reserved}
use Rattle.outcome.proofs.Laws.{never, or_second, passed, unless_unrefused, refusal_is_no_answer, said_by_injective}
use Rattle.division.specs.Division.{address_read}
use Rattle.message.specs.Message.{number, format_number, is_message_length, first_bit_agrees, is_word}
use Rattle.message.proofs.Laws.{word_lt, lt-word}
use Rattle.transponder.specs.Receptions.{everyone, all_call_format, is_broadcast_format, reception_of, is_reserved, Permitted, reception_outcome, answered, said}
use Rattle.transponder.specs.declared.Reception.{Reception}
use Rattle.transponder.specs.declared.Reception.TheVariants.{Own, AllCall, Broadcast, NotOurs}

-- ---- the formats of a broadcast

broadcast_format : (f : ℕ) → is_broadcast_format f ≡ true → (f ≡ 20) ⊎ (f ≡ 21)
broadcast_format f h = grind (arith, nat_tests)

is_broadcast_format_lem : (f : ℕ) → (f ≡ 20) ⊎ (f ≡ 21) → is_broadcast_format f ≡ true
is_broadcast_format_lem f h = grind (arith, nat_tests)

-- ---- the answer by the address read and the format

-- what is left where the address read is not the own address
abbrev picked : ℕ → Bool → Bool → Bool → Reception
picked a s t u = cond (s && t) AllCall (cond (s && u) Broadcast (NotOurs a))

pub is_own_lem : (own a f : ℕ) → a ≡ own → Own ≡ reception_of own a f
unfolding reception_of
is_own_lem own a f e = grind (arith, nat_tests)

is_all-call : (own a f : ℕ) → (a ≡ own → ⊥) → a ≡ everyone → f ≡ all_call_format → AllCall ≡ reception_of own a f
unfolding reception_of
is_all-call own a f n e g = grind (arith, nat_tests)

is_broadcast : (own a f : ℕ) → (a ≡ own → ⊥) → a ≡ everyone → (f ≡ 20) ⊎ (f ≡ 21) → Broadcast ≡ reception_of own a f
unfolding reception_of
is_broadcast own a f n e g = grind (arith, nat_tests)

is_not_ours : (own a f : ℕ) → (a ≡ own → ⊥) → (a ≡ everyone → (f ≡ all_call_format → ⊥) × (f ≡ 20 → ⊥) × (f ≡ 21 → ⊥)) → NotOurs a ≡ reception_of own a f
unfolding reception_of
is_not_ours own a f n h = grind (arith, nat_tests)

-- The condition of each answer.
abbrev pub Case : ℕ → ℕ → ℕ → Reception → Type 0
Case own a f Own = a ≡ own
Case own a f AllCall = (a ≡ own → ⊥) × (a ≡ everyone) × (f ≡ all_call_format)
Case own a f Broadcast = (a ≡ own → ⊥) × (a ≡ everyone) × ((f ≡ 20) ⊎ (f ≡ 21))
Case own a f (NotOurs b) =
    (b ≡ a) × (a ≡ own → ⊥) × (a ≡ everyone → (f ≡ all_call_format → ⊥) × (f ≡ 20 → ⊥) × (f ≡ 21 → ⊥))

-- of the answer given
pub case : (own a f : ℕ) → Case own a f (reception_of own a f)
unfolding reception_of
case own a f = by (eqb a own) refl (eqb a everyone) refl (eqb f all_call_format) refl (is_broadcast_format f) refl
  where
    by : (x : Bool) → eqb a own ≡ x → (y : Bool) → eqb a everyone ≡ y → (z : Bool) → eqb f all_call_format ≡ z → (v : Bool) → is_broadcast_format f ≡ v
        → Case own a f (cond x Own (picked a y z v))
    by true p y q z r v s = eqb-true a own p
    by false p true q true r v s = (eqb-false a own p, eqb-true a everyone q, eqb-true f all_call_format r)
    by false p true q false r true s = (eqb-false a own p, eqb-true a everyone q, broadcast_format f s)
    by false p true q false r false s = (
      refl,
      eqb-false a own p,
      λ e. (eqb-false f all_call_format r, (λ g. never (is_broadcast_format_lem f (inl g)) s), λ g. never (is_broadcast_format_lem f (inr g)) s),
    )
    by false p false q z r v s = (refl, eqb-false a own p, λ e. absurd (eqb-false a everyone q e))

-- and of no other answer
pub case_only : (own a f : ℕ) (r : Reception) → Case own a f r → r ≡ reception_of own a f
case_only own a f Own h = is_own_lem own a f h
case_only own a f AllCall h = is_all-call own a f h.0 h.1 h.2
case_only own a f Broadcast h = is_broadcast own a f h.0 h.1 h.2
case_only own a f (NotOurs b) h = ap NotOurs h.0 ∙ is_not_ours own a f h.1 h.2

-- ---- the outcome

module _ (own : ℕ) (m : List ℕ) where
  -- past rows 1, 3 and 5
  whole : (o : Outcome) → is_message_length (length m) ≡ true → is_word own ≡ true → first_bit_agrees m ≡ true
      → o ≡ unless (not (is_reserved own)) own_address_reserved (answered (reception_of own (address_read (number m)) (format_number m))) → o ≡ reception_outcome own m
  unfolding reception_outcome
  whole o e f g h =
      passed (is_message_length (length m)) wrong_length o _ e
      (passed (is_word own) word_too_large o _ f (passed (first_bit_agrees m) first_bit_contradicts o _ g h))

  pub read : (o : Outcome) → is_message_length (length m) ≡ true → is_word own ≡ true → first_bit_agrees m ≡ true → is_reserved own ≡ false
      → o ≡ answered (reception_of own (address_read (number m)) (format_number m)) → o ≡ reception_outcome own m
  read o e f g h p = whole o e f g (passed (not (is_reserved own)) own_address_reserved o _ (ap not h) p)

-- ---- a call that no row refuses

pub own_of_read : (own : ℕ) (m : List ℕ) → Permitted own → is_message_length (length m) ≡ true → first_bit_agrees m ≡ true
    → address_read (number m) ≡ own → reception_outcome own m ≡ answered Own
unfolding Permitted is_reserved
own_of_read own m h long first e =
    sym (read own m (answered Own) long (lt-word own (omega (arith, h.0))) first (ap₂ ◌||◌ (ne_eqb own 0 h.1) (ne_eqb own everyone h.2))
    (ap answered (is_own_lem own (address_read (number m)) (format_number m) e)))

pub record Admitted (own : ℕ) (m : List ℕ) : Type 0 where
  pub own_lt : own < 2 ^ 24
  pub not-everyone : own ≡ everyone → ⊥
  pub first_bit_agreeing : first_bit_agrees m ≡ true
  pub outcome : reception_outcome own m ≡ answered (reception_of own (address_read (number m)) (format_number m))

pub admitted : (own : ℕ) (m : List ℕ) → Unrefused (reception_outcome own m) → Admitted own m
unfolding reception_outcome is_reserved
admitted own m h =
    let first = unless_unrefused (is_message_length (length m)) wrong_length _ h in
    let second = unless_unrefused (is_word own) word_too_large _ first.1 in
    let third = unless_unrefused (first_bit_agrees m) first_bit_contradicts _ second.1 in
    let fourth = unless_unrefused (not (is_reserved own)) own_address_reserved _ third.1 in
    record {
      own_lt = word_lt own second.0;
      not-everyone = λ e. never (or_second (eqb own 0) (eqb own everyone) (eq-eqb own everyone e)) (not-true (is_reserved own) fourth.0);
      first_bit_agreeing = third.0;
      outcome = sym (read own m _ first.0 second.0 third.0 (not-true (is_reserved own) fourth.0) refl);
    }

-- ---- different answers of the code are different answers of the paper

-- what an answer of the paper was said for
abbrev unanswered : Outcome → Reception
unanswered (refusal n) = Own
unanswered (answer n vs) = cond (eqb n 1) Own (cond (eqb n 2) AllCall (cond (eqb n 4) Broadcast (NotOurs (get_or vs 0 0))))

unanswered-answered : (s : Reception) → unanswered (answered s) ≡ s
unanswered-answered Own = refl
unanswered-answered AllCall = refl
unanswered-answered Broadcast = refl
unanswered-answered (NotOurs a) = refl

no_refusal : (s : Reception) (n : ℕ) → refusal n ≡ answered s → ⊥
no_refusal Own n = refusal_is_no_answer
no_refusal AllCall n = refusal_is_no_answer
no_refusal Broadcast n = refusal_is_no_answer
no_refusal (NotOurs a) n = refusal_is_no_answer

pub answered_injective : (s t : Reception) → answered s ≡ answered t → s ≡ t
answered_injective s t e = sym (unanswered-answered s) ∙ ap unanswered e ∙ unanswered-answered t

pub said_injective : (s t : Result Reception Refusal) → said s ≡ said t → s ≡ t
said_injective =
    said_by_injective answered answered_injective no_refusal
