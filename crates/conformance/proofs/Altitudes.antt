-- Altitude codes. The idea: the code of an altitude is the one pattern of its step that means it, so that reading and writing
-- undo each other; and the writer puts that pattern, and nothing else, in the message.
use mathlib.Core.Path.{◌≡◌, refl, sym, ap, ◌∙◌, subst}
use mathlib.Core.Bool.{Bool, true, false, cond}
use mathlib.Core.Logic.{◌⊎◌, inl, inr}
use mathlib.Core.List.{List}
use Prim.Native.Nat.{ℕ, ◌≤◌}
use native.Mathlib.Omega.{arith}
use lib.IntN.{ℤ}
use lib.ListN.{length, get_or}
use borrow.Author.Tests.{eq-eqb, ne_eqb}
use Rattle.outcome.specs.Outcomes.{Unrefused}
use Rattle.outcome.proofs.Laws.{never, refusal_is_no_answer}
use Rattle.message.specs.Message.{Bytes, is_message_length, first_bit_agrees, parity_field}
use Rattle.message.specs.Bits.{bit_at}
use Rattle.message.proofs.Laws.{message-length, same_format, same-first_bit}
use Rattle.altitude_code.specs.Codes.{Q}
use Rattle.altitude_code.specs.Altitudes.{decoded_of, code_of, encoded_of}
use Rattle.altitude_code.specs.declared.Decoded.{Decoded}
use Rattle.altitude_code.specs.declared.Decoded.TheVariants as D
use Rattle.altitude_code.proofs.Laws.{encoded_in, was_encoded}
use Rattle.altitude_meaning.specs.Meaning.{By25, By100, Means, Encodes}
use Rattle.altitude_meaning.proofs.Laws.{means, means-only, encodes, encodes_only, neighbours, by_25, by_100, illegal}
use Rattle.altitude.specs.Fields.{has_altitude, altitude_code, with_code}
use Rattle.altitude.specs.Answers.{said_field, said_written, reading_of, reading_outcome, writing_outcome, writing_after}
use Rattle.std.specs.Prelude.{Option, Some, None, Result, Ok}
use Rattle.outcome.specs.declared.Refusal.{Refusal}
use Rattle.altitude.specs.declared.Writing.TheVariants.{Written}
use Rattle.altitude.proofs.Laws.{With, with_code_lem, with_own, four_bytes, Readable, readable, reading-passed, all-checked, said_injective, code_lt, has_by_format, has_format, format_has, reading_has, reading_has-not, Wrote, wrote, was-written, after-cases}
use Rattle.conformance.specs.Altitudes.{HasField, Told, OursIsTold, OnlyOneIsTold, WrittenIsRead, WrittenInStep, OthersStay, ParityStays, NothingElsewhere, step_of, ReadIsWritten, OneAltitude, OnePattern, CodesCounted, ElseIllegal, NeighboursDiffer}

-- ---- the reader

told : (m : List ℕ) → Told m (reading_of m)
unfolding Told HasField
told m = by (has_altitude m) refl
  where
    by : (t : Bool) → has_altitude m ≡ t → Told m (reading_of m)
    by true e =
        subst (Told m) (sym (reading_has m e)) (has_format m e, means (altitude_code m) (code_lt m))
    by false e = subst (Told m) (sym (reading_has-not m e)) (λ f. never (format_has m f) e)

pub ours_is_told : OursIsTold
unfolding OursIsTold
ours_is_told m h = (reading_of m, (readable m h).outcome, told m)

told_only : (m : List ℕ) (r : Option Decoded) → Told m r → r ≡ reading_of m
unfolding Told HasField
told_only m (Some d) h =
    ap (λ (x : Decoded). Some x) (means-only (altitude_code m) (code_lt m) d h.1) ∙ sym (reading_has m (format_has m h.0))
told_only m None h = by (has_altitude m) refl
  where
    by : (t : Bool) → has_altitude m ≡ t → None ≡ reading_of m
    by true e = absurd (h (has_format m e))
    by false e = sym (reading_has-not m e)

pub only_one_is_told : OnlyOneIsTold
unfolding OnlyOneIsTold
only_one_is_told m h r t = (readable m h).outcome ∙ ap said_field (sym (told_only m r t))

-- ---- the codes

-- a code that encodes an altitude means it
encodes_means : (z : ℤ) (s k : ℕ) → Encodes z s k → Means k (D.Feet z)
unfolding Encodes Means
encodes_means z s k (inl h) = inl h.1
encodes_means z s k (inr h) = inr h.1

-- and one that means an altitude encodes it, in its own step
means_encodes : (z : ℤ) (k : ℕ) → Means k (D.Feet z) → Encodes z (step_of k) k
unfolding Encodes Means By25 By100
means_encodes z k (inl h) = inl (ap (λ (t : Bool). cond t 25 100) (eq-eqb (Q k) 1 h.1), h)
means_encodes z k (inr h) = inr (ap (λ (t : Bool). cond t 25 100) (ne_eqb (Q k) 1 (λ e. let q : Q k ≡ 0 = h.2.no_step_25 in omega arith)), h)

decoded_again : (z : ℤ) (s k : ℕ) → encoded_of z s ≡ Some k → decoded_of k ≡ D.Feet z
decoded_again z s k e = let c = encodes z s k e in sym (means-only k c.0 (D.Feet z) (encodes_means z s k c.1))

pub one-altitude : OneAltitude
unfolding OneAltitude
one-altitude z y s k e f = let same : D.Feet z ≡ D.Feet y = sym (decoded_again z s k e) ∙ decoded_again y s k f in cc

pub one-pattern : OnePattern
unfolding OnePattern
one-pattern z k l e = encodes_only z (step_of k) k l (means_encodes z k (subst (Means k) e (means k l)))

pub codes_counted : CodesCounted
unfolding CodesCounted
codes_counted = (by_25, by_100, illegal)

pub else_illegal : ElseIllegal
unfolding ElseIllegal Means Encodes By100
else_illegal k l m q n none =
    sym (means-only k l D.Illegal (n, m, q, λ g j h. none _ (encodes_only _ 100 k l (inr (refl, (g, j, h, refl))))))

pub neighbours_differ : NeighboursDiffer
unfolding NeighboursDiffer
neighbours_differ = neighbours

-- ---- the writer

seven : (m : List ℕ) → is_message_length (length m) ≡ true → 7 ≤ length m
seven m e = by (message-length (length m) e)
  where
    by : (length m ≡ 7) ⊎ (length m ≡ 14) → 7 ≤ length m
    by (inl p) = omega arith
    by (inr p) = omega arith

-- what was written
module _ (m : List ℕ) (z : ℤ) (s : ℕ) (hm : Bytes m) (w : Wrote m z s) where
  encoded : encoded_of z s ≡ Some (code_of z s)
  encoded = encoded_in z s w.in_code_lem

  with_it : With m (code_of z s)
  with_it = with_code_lem m (code_of z s) hm (seven m w.long) (encodes z s (code_of z s) encoded).0

  code_is : altitude_code (writing_after m z s) ≡ code_of z s
  code_is = ap altitude_code w.after ∙ with_it.code

pub written_is_read : WrittenIsRead
unfolding WrittenIsRead
written_is_read m z s hm e = sym (reading-passed a (all-checked a long agrees)) ∙ ap said_field (reading_has a has ∙ ap (λ (x : Decoded). Some x) (ap decoded_of (code_is m z s hm w) ∙ decoded_again z s (code_of z s) (encoded m z s hm w)))
  where
    w : Wrote m z s
    w = was-written m z s e

    a : List ℕ
    a = writing_after m z s

    same-long : length a ≡ length m
    same-long = ap length w.after ∙ (with_it m z s hm w).same_length

    first : get_or a 0 0 ≡ get_or m 0 0
    first = ap (λ (l : List ℕ). get_or l 0 0) w.after ∙ (with_it m z s hm w).same_first

    long : is_message_length (length a) ≡ true
    long = ap is_message_length same-long ∙ w.long

    agrees : first_bit_agrees a ≡ true
    agrees = same-first_bit a m first same-long ∙ w.agrees

    has : has_altitude a ≡ true
    has = has_by_format a m (same_format a m first) ∙ w.has

pub written_in_step : WrittenInStep
unfolding WrittenInStep
written_in_step m z s hm e =
    let w = was-written m z s e in subst (Encodes z s) (sym (code_is m z s hm w)) (encodes z s (code_of z s) (encoded m z s hm w)).1

pub others_stay : OthersStay
unfolding OthersStay
others_stay m z s i hm o = by (after-cases m z s)
  where
    by : (writing_after m z s ≡ m) ⊎ Wrote m z s → (length (writing_after m z s) ≡ length m) × (bit_at (writing_after m z s) i ≡ bit_at m i)
    by (inl e) = (ap length e, ap (λ (l : List ℕ). bit_at l i) e)
    by (inr w) = (
      ap length w.after ∙ (with_it m z s hm w).same_length,
      ap (λ (l : List ℕ). bit_at l i) w.after ∙ (with_it m z s hm w).others i o,
    )

pub parity_stays : ParityStays
unfolding ParityStays
parity_stays m z s hm = by (after-cases m z s)
  where
    by : (writing_after m z s ≡ m) ⊎ Wrote m z s → parity_field (writing_after m z s) ≡ parity_field m
    by (inl e) = ap parity_field e
    by (inr w) = ap parity_field w.after ∙ (with_it m z s hm w).same-parity

pub nothing_elsewhere : NothingElsewhere
unfolding NothingElsewhere HasField
nothing_elsewhere m z s n = by (after-cases m z s)
  where
    by : (writing_after m z s ≡ m) ⊎ Wrote m z s → writing_after m z s ≡ m
    by (inl e) = e
    by (inr w) = absurd (n (has_format m w.has))

pub read_is_written : ReadIsWritten
unfolding ReadIsWritten OnePattern
read_is_written m z hm e = by (has_altitude m) refl
  where
    unrefused : Unrefused (reading_outcome m)
    unrefused n r = refusal_is_no_answer (sym r ∙ e)

    ok : Readable m
    ok = readable m unrefused

    read : Some (D.Feet z) ≡ reading_of m
    read =
        let f : ◌≡◌ {A = Result (Option Decoded) Refusal} (Ok (Some (D.Feet z))) (Ok (reading_of m)) = said_injective _ _ (sym e ∙ ok.outcome) in
        cc

    k : ℕ
    k = altitude_code m

    by : (t : Bool) → has_altitude m ≡ t → (writing_outcome m z (step_of k) ≡ said_written Written) × (writing_after m z (step_of k) ≡ m)
    by true h =
        let same : ◌≡◌ {A = Option Decoded} (Some (D.Feet z)) (Some (decoded_of k)) = read ∙ reading_has m h in
        let is : decoded_of k ≡ D.Feet z = cc in
        let c = was_encoded z (step_of k) k (one-pattern z k (code_lt m) is) in
        let w = wrote m z (step_of k) ok.long ok.agrees c.0 h in
        (w.1, w.0.after ∙ ap (with_code m) c.1 ∙ with_own m hm (four_bytes m ok.long))
    by false h = absurd (let n : ◌≡◌ {A = Option Decoded} None (Some (D.Feet z)) = sym (reading_has-not m h) ∙ sym read in let q : ◌≡◌ {A = ℕ} 0 1 = cc in omega arith)
