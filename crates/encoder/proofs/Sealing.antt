-- How a seal's definitions split: the outcome by its three tests, and the parity field's bytes.
use mathlib.Core.Path.{◌≡◌, refl, sym, ap, ap₂, ◌∙◌}
use mathlib.Core.Bool.{true}
use mathlib.Core.List.{List, [], ◌++◌, append-nil}
use Prim.Native.Nat.{ℕ, ◌-◌, ◌^◌, ◌<◌, ◌≤◌}
use native.Mathlib.Nat.{sub-le}
use native.Mathlib.Omega.{arith}
use lib.Bits.{bit_xor, xor_lt}
use lib.ListN.{length, take}
use lib.Seq.{drop-length, length-take-le}
use borrow.Rule.Slice.PartMut.{put_mid, Post-is}
use Rattle.message.specs.Message.{is_message_length, is_field_length, first_bit_agrees, is_word}
use Rattle.outcome.specs.Outcomes.{done}
use Rattle.outcome.specs.Outcomes.Outcome.{answer}
use Rattle.outcome.specs.Refusals.{wrong_length, word_too_large, first_bit_contradicts}
use Rattle.outcome.proofs.Laws.{passed, unless-answer, admission_injective}
use Rattle.message.proofs.Laws.{word_lt, message-length_ge, field_is_field, field_is}
use Rattle.division.specs.Division.{parity}
use Rattle.division.proofs.Laws.{overlay-lt, parity-lt}
use Rattle.encoder.specs.Seals.{word_bytes, with_parity, seal_outcome, said}
use Rattle.std.specs.Prelude.{Result}
use Rattle.outcome.specs.declared.Refusal.{Refusal}

-- ---- the outcome

pub accepted : (m : List ℕ) (w : ℕ) → is_message_length (length m) ≡ true → is_word w ≡ true → first_bit_agrees m ≡ true → done ≡ seal_outcome m w
unfolding seal_outcome
accepted m w e f g =
    passed (is_message_length (length m)) wrong_length done _ e
    (passed (is_word w) word_too_large done _ f (passed (first_bit_agrees m) first_bit_contradicts done done g refl))

-- what a seal that was not refused was given
pub was_accepted : (m : List ℕ) (w : ℕ) → seal_outcome m w ≡ done
    → (is_message_length (length m) ≡ true) × (w < 2 ^ 24) × (first_bit_agrees m ≡ true)
unfolding seal_outcome
was_accepted m w e =
    let first = unless-answer (is_message_length (length m)) wrong_length _ 0 [] e in
    let second = unless-answer (is_word w) word_too_large _ 0 [] first.1 in
    let third = unless-answer (first_bit_agrees m) first_bit_contradicts _ 0 [] second.1 in
    (first.0, word_lt w second.0, third.0)

pub accepted-length : (m : List ℕ) (w : ℕ) → done ≡ seal_outcome m w → is_message_length (length m) ≡ true
accepted-length m w e = (was_accepted m w (sym e)).0

pub accepted-word : (m : List ℕ) (w : ℕ) → done ≡ seal_outcome m w → w < 2 ^ 24
accepted-word m w e = (was_accepted m w (sym e)).1

pub ruleset accepting = (accepted-length, accepted-word, overlay-lt)

-- a seal that was answered was done
pub answered-done : (m : List ℕ) (w n : ℕ) (vs : List ℕ) → seal_outcome m w ≡ answer n vs → seal_outcome m w ≡ done
unfolding seal_outcome
answered-done m w n vs e =
    let first = unless-answer (is_message_length (length m)) wrong_length _ n vs e in
    let second = unless-answer (is_word w) word_too_large _ n vs first.1 in
    let third = unless-answer (first_bit_agrees m) first_bit_contradicts _ n vs second.1 in
    e ∙ sym third.1

-- ---- the parity field

-- the field before it has a field's length
pub field_before : (m : List ℕ) → is_message_length (length m) ≡ true → is_field_length (length (take (length m - 3) m)) ≡ true
field_before m h =
    let ge = message-length_ge (length m) h in
    let l = length-take-le (length m - 3) m (sub-le (length m) 3) in
    field_is_field (length m) (length (take (length m - 3) m)) h (omega arith)

-- R and a word are a word
pub word_in_parity : (n w : ℕ) → w < 2 ^ 24 → bit_xor (parity n) w < 2 ^ 24
word_in_parity n w h = xor_lt 24 (parity n) w (parity-lt n) h

-- the last three bytes replaced, as they come back from the writer
pub written : (m : List ℕ) (p : ℕ) → 3 ≤ length m → with_parity m p ≡ put_mid (length m - 3) (length m - (length m - 3)) m (word_bytes p)
unfolding with_parity
written m p h =
    ap₂ (λ (f t : List ℕ). f ++ t) (field_is m) (sym (append-nil (word_bytes p)))
    ∙ ap (λ (t : List ℕ). take (length m - 3) m ++ (word_bytes p ++ t)) (sym (Post-is (length m - 3) (length m) m (omega arith) ∙ drop-length m))

-- what the writing of the parity field needs
pub ruleset sealing = (message-length_ge, field_before, word_in_parity, written, field_is)

-- ---- different results of the code are different answers of the paper

pub said_injective : (r s : Result Unit Refusal) → said r ≡ said s → r ≡ s
said_injective = admission_injective
