-- How the answers split by their tests.
use mathlib.Core.Path.{◌≡◌, refl, sym, ap, ◌∙◌}
use mathlib.Core.Bool.{true, false, cond}
use mathlib.Core.List.{List}
use Prim.Native.Nat.{ℕ, ◌≤◌}
use lib.Dec.{eqb}
use lib.IntN.{ℤ, pos, negsuc, neg_ℤ}
use lib.ListN.{length, get_or}
use native.Mathlib.Omega.{arith}
use mathlib.Core.Logic.{◌⊎◌, inl, inr}
use Rattle.outcome.specs.Outcomes.{Outcome, done, Unrefused}
use Rattle.outcome.specs.Outcomes.Outcome.{refusal, answer}
use Rattle.outcome.specs.Refusals.{wrong_length, first_bit_contradicts, altitude_not_in_code}
use Rattle.outcome.proofs.Laws.{unless_unrefused, row_of, row_of-number}
use Rattle.message.specs.Message.{is_message_length, first_bit_agrees}
use Rattle.message.proofs.Laws.{message-length}
use Rattle.altitude_code.specs.Altitudes.{in_code, code_of}
use Rattle.altitude.specs.Fields.{has_altitude, with_code}
use Rattle.altitude.specs.Answers.{said_altitude, said_writing, checked, reading_of, reading_outcome, writing_outcome, writing_after}
use Rattle.altitude.specs.declared.Writing.{Writing}
use Rattle.altitude.specs.declared.Writing.TheVariants.{Written, NoSuchField}
use mir.ValLaws.{to_z-of_z}
use Rattle.altitude_code.proofs.Laws.{was_encoded, out_of_code, encoded_lt}
use Rattle.altitude_code.specs.declared.Decoded.{Decoded}
use Rattle.altitude_code.specs.declared.Decoded.TheVariants as D
use Rattle.outcome.specs.declared.Refusal.{Refusal}
use Rattle.std.specs.Prelude.{Option, None, Some, Result, Ok, Err}

module _ (m : List ℕ) where
  -- ---- rows 1 and 5

  pub refused-length : is_message_length (length m) ≡ false → refusal wrong_length ≡ checked m
  unfolding checked
  refused-length e = grind arith

  pub refused_bit : is_message_length (length m) ≡ true → first_bit_agrees m ≡ false → refusal first_bit_contradicts ≡ checked m
  unfolding checked
  refused_bit e f = grind arith

  pub all-checked : is_message_length (length m) ≡ true → first_bit_agrees m ≡ true → done ≡ checked m
  unfolding checked
  all-checked e f = grind arith

  pub was-checked : done ≡ checked m → (is_message_length (length m) ≡ true) × (first_bit_agrees m ≡ true)
  unfolding checked
  was-checked e = grind arith

  pub four_bytes : is_message_length (length m) ≡ true → 4 ≤ length m
  four_bytes e = by (message-length (length m) e)
    where
      by : (length m ≡ 7) ⊎ (length m ≡ 14) → 4 ≤ length m
      by (inl p) = omega arith
      by (inr p) = omega arith

  -- ---- the reader

  pub reading-refused : (n : ℕ) → refusal n ≡ checked m → refusal n ≡ reading_outcome m
  unfolding reading_outcome checked
  reading-refused n e = grind arith

  pub reading-passed : done ≡ checked m → said_altitude (Ok (reading_of m)) ≡ reading_outcome m
  unfolding reading_outcome
  reading-passed e = let ok = was-checked e in grind arith

  pub record Readable : Type 0 where
    pub long : is_message_length (length m) ≡ true
    pub agrees : first_bit_agrees m ≡ true
    pub outcome : reading_outcome m ≡ said_altitude (Ok (reading_of m))

  pub readable : Unrefused (reading_outcome m) → Readable
  unfolding reading_outcome
  readable h =
      let first = unless_unrefused (is_message_length (length m)) wrong_length _ h in
      let second = unless_unrefused (first_bit_agrees m) first_bit_contradicts _ first.1 in
      record { long = first.0; agrees = second.0; outcome = sym (reading-passed (all-checked first.0 second.0)) }

  -- ---- the writer

  module _ (z : ℤ) (s : ℕ) where
    pub writing-refused : (n : ℕ) → refusal n ≡ checked m → refusal n ≡ writing_outcome m z s
    unfolding writing_outcome checked
    writing-refused n e = grind arith

    pub writing-out : done ≡ checked m → in_code z s ≡ false → refusal altitude_not_in_code ≡ writing_outcome m z s
    unfolding writing_outcome
    writing-out e f = let ok = was-checked e in grind arith

    pub writing-in : done ≡ checked m → in_code z s ≡ true → said_writing (Ok (cond (has_altitude m) Written NoSuchField)) ≡ writing_outcome m z s
    unfolding writing_outcome
    writing-in e f = let ok = was-checked e in grind arith

    -- what a call leaves
    pub left-refused : (n : ℕ) → refusal n ≡ writing_outcome m z s → m ≡ writing_after m z s
    unfolding writing_after
    left-refused n e = grind arith

    pub after-checked : (n : ℕ) → refusal n ≡ checked m → writing_after m z s ≡ m
    after-checked n e = sym (left-refused n (writing-refused n e))

    pub after-out : done ≡ checked m → in_code z s ≡ false → writing_after m z s ≡ m
    after-out e f = sym (left-refused altitude_not_in_code (writing-out e f))

    pub left_in : done ≡ checked m → in_code z s ≡ true → cond (has_altitude m) (with_code m (code_of z s)) m ≡ writing_after m z s
    unfolding writing_after
    left_in e f = let g = writing-in e f in grind arith

-- ---- different answers of the code are different answers

unsigned : List ℕ → ℤ
unsigned vs = cond (eqb (get_or vs 0 0) 0) (pos (get_or vs 1 0)) (neg_ℤ (pos (get_or vs 1 0)))

unsaid_field : ℕ → List ℕ → Option Decoded
unsaid_field n vs =
    cond (eqb n 1) (Some (D.Feet (unsigned vs)))
    (cond (eqb n 2) (Some D.NoAltitude) (cond (eqb n 3) (Some D.Metric) (cond (eqb n 4) (Some D.Illegal) None)))

unsaid_altitude : Outcome → Result (Option Decoded) Refusal
unsaid_altitude (refusal n) = Err (row_of n)
unsaid_altitude (answer n vs) = Ok (unsaid_field n vs)

unsaid-said : (a : Result (Option Decoded) Refusal) → unsaid_altitude (said_altitude a) ≡ a
unfolding unsaid_altitude unsaid_field unsigned
unsaid-said (Ok (Some (D.Feet (pos n)))) = refl
unsaid-said (Ok (Some (D.Feet (negsuc n)))) = refl
unsaid-said (Ok (Some D.NoAltitude)) = refl
unsaid-said (Ok (Some D.Metric)) = refl
unsaid-said (Ok (Some D.Illegal)) = refl
unsaid-said (Ok None) = refl
unsaid-said (Err r) = ap Err (row_of-number r)

pub said_injective : (a b : Result (Option Decoded) Refusal) → said_altitude a ≡ said_altitude b → a ≡ b
said_injective a b e = sym (unsaid-said a) ∙ ap unsaid_altitude e ∙ unsaid-said b

unsaid_writing : Outcome → Result Writing Refusal
unsaid_writing (refusal n) = Err (row_of n)
unsaid_writing (answer n vs) = Ok (cond (eqb n 0) Written NoSuchField)

unsaid-written : (w : Result Writing Refusal) → unsaid_writing (said_writing w) ≡ w
unfolding unsaid_writing
unsaid-written (Ok Written) = refl
unsaid-written (Ok NoSuchField) = refl
unsaid-written (Err r) = ap Err (row_of-number r)

pub said-written_injective : (v w : Result Writing Refusal) → said_writing v ≡ said_writing w → v ≡ w
said-written_injective v w e = sym (unsaid-written v) ∙ ap unsaid_writing e ∙ unsaid-written w

-- ---- what the two calls need

pub ruleset reading = (four_bytes, was-checked, reading-refused, reading-passed)

pub ruleset writing = (four_bytes, was-checked, writing-refused, writing-out, writing-in, after-checked, after-out, left_in, was_encoded, out_of_code, encoded_lt, to_z-of_z)
