-- The checks of a call: what a call that no row refuses was given.
use mathlib.Core.Path.{◌≡◌, refl, sym, subst}
use mathlib.Core.Logic.{◌⊎◌, inl, inr}
use mathlib.Core.Bool.{true}
use Prim.Native.Nat.{ℕ, ◌^◌, ◌<◌, ◌≤◌}
use native.Mathlib.Omega.{arith}
use lib.Dec.{eqb, leb}
use borrow.Author.Tests.{eqb-true}
use Rattle.outcome.specs.Outcomes.{Outcome, Unrefused}
use Rattle.outcome.specs.Refusals.{wrong_length, wrong_confidence_length, word_too_large, limit_too_large}
use Rattle.outcome.proofs.Laws.{passed, unless_unrefused}
use Rattle.message.specs.Message.{is_message_length, is_word}
use Rattle.message.proofs.Laws.{word_lt, message-length}
use Rattle.sensor.specs.Verdicts.{checked}

pub record Admitted (n k w l : ℕ) : Type 0 where
  pub length_ok : is_message_length n ≡ true
  pub same_length : k ≡ n
  pub word_ok : w < 2 ^ 24
  pub outcome : (a : Outcome) → checked n k w l a ≡ a

pub admitted : (n k w l : ℕ) (a : Outcome) → Unrefused (checked n k w l a) → Admitted n k w l
unfolding checked
admitted n k w l a h =
    let first = unless_unrefused (is_message_length n) wrong_length _ h in
    let second = unless_unrefused (eqb k n) wrong_confidence_length _ first.1 in
    let third = unless_unrefused (is_word w) word_too_large _ second.1 in
    let fourth = unless_unrefused (leb l 24) limit_too_large _ third.1 in
    record {
      length_ok = first.0;
      same_length = eqb-true k n second.0;
      word_ok = word_lt w third.0;
      outcome = λ b.
          sym
          (passed (is_message_length n) wrong_length b _ first.0
          (passed (eqb k n) wrong_confidence_length b _ second.0
          (passed (is_word w) word_too_large b _ third.0
          (passed (leb l 24) limit_too_large b b fourth.0 refl))));
    }

-- ---- the two lengths

pub sizes : (n : ℕ) → is_message_length n ≡ true → (3 ≤ n) × (n ≤ 14)
sizes n e = by (message-length n e)
  where
    by : (n ≡ 7) ⊎ (n ≡ 14) → (3 ≤ n) × (n ≤ 14)
    by (inl p) = (omega arith, omega arith)
    by (inr p) = (omega arith, omega arith)

pub sizes_of : (n k : ℕ) → is_message_length n ≡ true → k ≡ n → (3 ≤ k) × (k ≤ 14)
sizes_of n k e q = subst (λ (x : ℕ). (3 ≤ x) × (x ≤ 14)) (sym q) (sizes n e)
