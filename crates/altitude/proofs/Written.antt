-- What the writer leaves: the message as it was, or, where no row refuses and the format has an altitude, the message with the
-- code of the altitude.
use mathlib.Core.Path.{◌≡◌, refl, sym, ap, ◌∙◌}
use mathlib.Core.Bool.{Bool, true, false, cond, ◌||◌}
use mathlib.Core.Logic.{◌⊎◌, inl, inr}
use mathlib.Core.List.{List, []}
use Prim.Native.Nat.{ℕ}
use native.Mathlib.Omega.{arith}
use lib.Dec.{eqb}
use lib.IntN.{ℤ}
use lib.ListN.{length}
use Rattle.outcome.specs.Outcomes.{done, Unrefused}
use Rattle.outcome.specs.Refusals.{wrong_length, first_bit_contradicts, altitude_not_in_code}
use Rattle.outcome.proofs.Laws.{refusal_is_no_answer, same_answer, unless-answer}
use Rattle.message.specs.Message.{format_number, is_message_length, first_bit_agrees}
use Rattle.altitude_code.specs.Altitudes.{in_code, code_of, decoded_of}
use Rattle.altitude_code.specs.declared.Decoded.{Decoded}
use Rattle.altitude_code.specs.declared.Decoded.TheVariants as D
use Rattle.altitude.specs.Fields.{has_altitude, altitude_code, with_code}
use Rattle.altitude.specs.Answers.{said_altitude, said_writing, reading_of, writing_outcome, writing_after}
use Rattle.altitude.specs.declared.Writing.TheVariants.{Written, NoSuchField}
use Rattle.std.specs.Prelude.{Option, None, Some, Ok}
use Rattle.altitude.proofs.Answering.{refused-length, refused_bit, all-checked, writing-refused, writing-out, writing-in, left-refused, left_in}

-- ---- a format with an altitude

pub has_by_format : (m n : List ℕ) → format_number m ≡ format_number n → has_altitude m ≡ has_altitude n
unfolding has_altitude
has_by_format m n e = ap (λ (f : ℕ). eqb f 4 || eqb f 20) e

pub has_format : (m : List ℕ) → has_altitude m ≡ true → (format_number m ≡ 4) ⊎ (format_number m ≡ 20)
unfolding has_altitude
has_format m e = grind arith

pub format_has : (m : List ℕ) → (format_number m ≡ 4) ⊎ (format_number m ≡ 20) → has_altitude m ≡ true
unfolding has_altitude
format_has m e = grind arith

pub reading_has : (m : List ℕ) → has_altitude m ≡ true → reading_of m ≡ Some (decoded_of (altitude_code m))
unfolding reading_of
reading_has m e = grind arith

pub reading_has-not : (m : List ℕ) → has_altitude m ≡ false → reading_of m ≡ None
unfolding reading_of
reading_has-not m e = grind arith

-- no answer past the rows is a refusal
pub reading_final : (m : List ℕ) → Unrefused (said_altitude (Ok (reading_of m)))
reading_final m = final (reading_of m)
  where
    final : (o : Option Decoded) → Unrefused (said_altitude (Ok o))
    final (Some (D.Feet z)) n e = refusal_is_no_answer (sym e)
    final (Some D.NoAltitude) n e = refusal_is_no_answer (sym e)
    final (Some D.Metric) n e = refusal_is_no_answer (sym e)
    final (Some D.Illegal) n e = refusal_is_no_answer (sym e)
    final None n e = refusal_is_no_answer (sym e)

-- ---- the writer

pub record Wrote (m : List ℕ) (z : ℤ) (s : ℕ) : Type 0 where
  pub long : is_message_length (length m) ≡ true
  pub agrees : first_bit_agrees m ≡ true
  pub in_code_lem : in_code z s ≡ true
  pub has : has_altitude m ≡ true
  pub after : writing_after m z s ≡ with_code m (code_of z s)

module _ (m : List ℕ) (z : ℤ) (s : ℕ) where
  pub wrote : is_message_length (length m) ≡ true → first_bit_agrees m ≡ true → in_code z s ≡ true → has_altitude m ≡ true
      → Wrote m z s × (writing_outcome m z s ≡ said_writing (Ok Written))
  wrote a b c d =
      let passed = all-checked m a b in
      let has = ap (λ (t : Bool). cond t (with_code m (code_of z s)) m) d in (
        record { long = a; agrees = b; in_code_lem = c; has = d; after = sym (left_in m z s passed c) ∙ has },
        sym (writing-in m z s passed c) ∙ ap (λ (t : Bool). said_writing (Ok (cond t Written NoSuchField))) d,
      )

  pub was-written : writing_outcome m z s ≡ said_writing (Ok Written) → Wrote m z s
  unfolding writing_outcome
  was-written e =
      let first = unless-answer (is_message_length (length m)) wrong_length _ 0 [] e in
      let second = unless-answer (first_bit_agrees m) first_bit_contradicts _ 0 [] first.1 in
      let third = unless-answer (in_code z s) altitude_not_in_code _ 0 [] second.1 in
      (wrote first.0 second.0 third.0 (by (has_altitude m) third.1)).0
    where
      by : (t : Bool) → said_writing (Ok (cond t Written NoSuchField)) ≡ done → t ≡ true
      by true e = refl
      by false e = absurd (let n = same_answer e in omega arith)

  pub after-cases : (writing_after m z s ≡ m) ⊎ Wrote m z s
  after-cases = by (is_message_length (length m)) refl (first_bit_agrees m) refl (in_code z s) refl (has_altitude m) refl
    where
      by : (a : Bool) → is_message_length (length m) ≡ a → (b : Bool) → first_bit_agrees m ≡ b → (c : Bool) → in_code z s ≡ c → (d : Bool) → has_altitude m ≡ d
          → (writing_after m z s ≡ m) ⊎ Wrote m z s
      by false p b q c r d t = inl (sym (left-refused m z s wrong_length (writing-refused m z s wrong_length (refused-length m p))))
      by true p false q c r d t = inl (sym (left-refused m z s first_bit_contradicts (writing-refused m z s first_bit_contradicts (refused_bit m p q))))
      by true p true q false r d t = inl (sym (left-refused m z s altitude_not_in_code (writing-out m z s (all-checked m p q) r)))
      by true p true q true r false t = inl (sym (left_in m z s (all-checked m p q) r) ∙ ap (λ (x : Bool). cond x (with_code m (code_of z s)) m) t)
      by true p true q true r true t = inr (wrote p q r t).0
