-- The two-antenna transponder. The idea: a buffer is taken exactly where no row refuses it and one of three answers is due; the
-- companion's answer is then a choice between two tests, each answer with its condition; and the part is a map of the answer.
use mathlib.Core.Path.{◌≡◌, refl, sym, ap, ◌∙◌, subst}
use mathlib.Core.Bool.{Bool, true, false}
use mathlib.Core.Logic.{◌↔◌, ◌⊎◌, inl, inr}
use mathlib.Core.List.{List, []}
use Prim.Native.Nat.{ℕ, ◌≤◌, ◌<◌}
use native.Mathlib.Omega.{arith}
use lib.Bits.{bit_xor}
use lib.Dec.{eqb, leb}
use lib.ListN.{length, get_or}
use borrow.Author.Tests.{eqb-true, eqb-false, leb-true, leb-false}
use Rattle.std.specs.Prelude.{Option, Some, None, Result, Ok, Err}
use Rattle.outcome.specs.declared.Refusal.{Refusal}
use Rattle.outcome.specs.Outcomes.{done, Unrefused}
use Rattle.outcome.specs.Outcomes.Outcome.{refusal}
use Rattle.outcome.proofs.Laws.{never, refusal_is_no_answer}
use Rattle.message.specs.Message.{number, Bytes, field, first_bit, format_number}
use Rattle.message.specs.Bits.{inverted}
use Rattle.message.proofs.Laws.{field-length, first_bit_by}
use Rattle.division.specs.Division.{ReadsAs, parity, overlay}
use Rattle.division.proofs.Laws.{address_law}
use Rattle.encoder.specs.Seals.{with_parity, seal_outcome, interrogation_after}
use Rattle.encoder.proofs.Laws.{interrogation_after_lem, interrogation_is, sealed-length, sealed_first}
use Rattle.transponder.specs.Receptions.{Permitted, reception_outcome, answered}
use Rattle.transponder.specs.declared.Reception.{Reception}
use Rattle.transponder.specs.declared.Reception.TheVariants as R
use Rattle.antennas.specs.Antennas.{is_taken, antenna_of, Part, part_of, said as said_antenna}
use Rattle.antennas.specs.declared.Antenna.{Antenna}
use Rattle.antennas.specs.declared.Antenna.TheVariants.{Upper, Lower}
use Rattle.antennas.proofs.Laws.{Case, case, case_only, no_refusal, unrefused-choice}
use Rattle.conformance.specs.Refusals.{row, Wrong, handed, outcome, Breaks, SomeBreaks, Applies, RefusedByLowest, UnrefusedWhereNone}
use Rattle.conformance.specs.Refusals.Part.{message, word, judged, own_address}
use Rattle.conformance.specs.Refusals.Call.{receive, seal_interrogation, taken_antenna}
use Rattle.conformance.specs.Sealing.{SealedCallIsRead}
use Rattle.conformance.specs.Accepting.{Due, OursIsDue, OnlyOneIsDue, BurstNeverOwn}
use Rattle.conformance.specs.Antennas.{Whole, Taken, TakenIsAccepted, RefusedNotTaken, SaysUpper, SaysLower, SaysNeither, SaysRefused, returned, IsField, Apart, UpperPart, LowerPart, EmptyPart, PartLengths, BurstNeverDisplaces}
use Rattle.conformance.proofs.Refusals.{refused_by_lowest, unrefused_where_none}
use Rattle.conformance.proofs.Sealing.{sealed_call_is_read}
use Rattle.conformance.proofs.Accepting.{ours_is_due, only_one_is_due, burst_never_own}

-- ---- what the rows of the table leave

whole : (m : List ℕ) → (Wrong (message m) → ⊥) → (Wrong (judged m) → ⊥) → Whole m
unfolding Wrong Whole
whole m f g = by (eqb (length m) 7) refl (eqb (length m) 14) refl (eqb (first_bit m) 0) refl (eqb (first_bit m) 1) refl
  where
    by : (x : Bool) → eqb (length m) 7 ≡ x → (y : Bool) → eqb (length m) 14 ≡ y → (z : Bool) → eqb (first_bit m) 0 ≡ z → (v : Bool) → eqb (first_bit m) 1 ≡ v
        → ((length m ≡ 7) × (first_bit m ≡ 0)) ⊎ ((length m ≡ 14) × (first_bit m ≡ 1))
    by x i true j z r true s = inr (eqb-true _ 14 j, eqb-true _ 1 s)
    by x i true j z r false s = absurd (g (inl (eqb-true _ 14 j, eqb-false _ 1 s)))
    by true i false j true r v s = inl (eqb-true _ 7 i, eqb-true _ 0 r)
    by true i false j false r v s = absurd (g (inr (eqb-false _ 14 j, eqb-false _ 0 r)))
    by false i false j z r v s = absurd (f (eqb-false _ 7 i, eqb-false _ 14 j))

not_wrong : (m : List ℕ) → Whole m → (Wrong (message m) → ⊥) × (Wrong (judged m) → ⊥)
unfolding Wrong Whole
not_wrong m (inl h) = ((λ w. w.0 h.0), judged-right)
  where
    judged-right : ((length m ≡ 14) × (first_bit m ≡ 1 → ⊥)) ⊎ ((length m ≡ 14 → ⊥) × (first_bit m ≡ 0 → ⊥)) → ⊥
    judged-right (inl w) = omega (arith, h.0, w.0)
    judged-right (inr w) = w.1 h.1
not_wrong m (inr h) = ((λ w. w.1 h.0), judged-right)
  where
    judged-right : ((length m ≡ 14) × (first_bit m ≡ 1 → ⊥)) ⊎ ((length m ≡ 14 → ⊥) × (first_bit m ≡ 0 → ⊥)) → ⊥
    judged-right (inl w) = w.1 h.1
    judged-right (inr w) = w.0 h.0

permitted : (own : ℕ) → (Wrong (word own) → ⊥) → (Wrong (own_address own) → ⊥) → Permitted own
unfolding Wrong Permitted
permitted own f g = (by (leb own 0xFFFFFF) refl, (λ e. g (inl e)), λ e. g (inr e))
  where
    by : (x : Bool) → leb own 0xFFFFFF ≡ x → own ≤ 0xFFFFFF
    by true e = leb-true own 0xFFFFFF e
    by false e = absurd (f (leb-false own 0xFFFFFF e))

own_right : (own : ℕ) → Permitted own → (Wrong (word own) → ⊥) × (Wrong (own_address own) → ⊥)
unfolding Wrong Permitted
own_right own h = ((λ w. omega (arith, w, h.0)), reserved-right)
  where
    reserved-right : (own ≡ 0x000000) ⊎ (own ≡ 0xFFFFFF) → ⊥
    reserved-right (inl e) = h.1 e
    reserved-right (inr e) = h.2 e

-- ---- the transponder's call, and the companion's

received : (own : ℕ) (m : List ℕ) → Unrefused (reception_outcome own m) → Whole m
unfolding UnrefusedWhereNone Applies SomeBreaks Breaks handed outcome row
received own m u =
    let none = (unrefused_where_none (receive own m)).0 u in
    whole m (λ w. none _ (inl (refl, w))) (λ w. none _ (inr (inr (inl (refl, w)))))

pub receives : (own : ℕ) (m : List ℕ) → Permitted own → Whole m → Unrefused (reception_outcome own m)
unfolding UnrefusedWhereNone Applies SomeBreaks Breaks handed outcome row
receives own m h k = (unrefused_where_none (receive own m)).1 none
  where
    none : (n : ℕ) → Breaks n (message m) ⊎ (Breaks n (word own) ⊎ (Breaks n (judged m) ⊎ (Breaks n (own_address own) ⊎ ⊥))) → ⊥
    none n (inl b) = (not_wrong m k).0 b.1
    none n (inr (inl b)) = (own_right own h).0 b.1
    none n (inr (inr (inl b))) = (not_wrong m k).1 b.1
    none n (inr (inr (inr (inl b)))) = (own_right own h).1 b.1
    none n (inr (inr (inr (inr b)))) = b

module _ (own : ℕ) (u : List ℕ) (p : ℕ) (l : List ℕ) (q : ℕ) where
  answers : Unrefused (said_antenna (antenna_of own u p l q)) → Permitted own
  unfolding UnrefusedWhereNone Applies SomeBreaks Breaks handed outcome row
  answers f =
      let none = (unrefused_where_none (taken_antenna own u p l q)).0 f in
      permitted own (λ w. none _ (inl (refl, w))) (λ w. none _ (inr (inl (refl, w))))

  is-answered : Permitted own → Unrefused (said_antenna (antenna_of own u p l q))
  unfolding UnrefusedWhereNone Applies SomeBreaks Breaks handed outcome row
  is-answered h = (unrefused_where_none (taken_antenna own u p l q)).1 none
    where
      none : (n : ℕ) → Breaks n (word own) ⊎ (Breaks n (own_address own) ⊎ ⊥) → ⊥
      none n (inl b) = (own_right own h).0 b.1
      none n (inr (inl b)) = (own_right own h).1 b.1
      none n (inr (inr b)) = b

-- ---- what is taken

accepted : (own : ℕ) (m : List ℕ) → Permitted own → Taken own m
    → (reception_outcome own m ≡ answered R.Own) ⊎ ((reception_outcome own m ≡ answered R.AllCall) ⊎ (reception_outcome own m ≡ answered R.Broadcast))
unfolding Taken OnlyOneIsDue Due
accepted own m h (k, r) = by r
  where
    due : (r : Reception) → Due own m r → reception_outcome own m ≡ answered r
    due = only_one_is_due own m (receives own m h k)

    by : ReadsAs (number m) own ⊎ (ReadsAs (number m) 0xFFFFFF × ((format_number m ≡ 11) ⊎ ((format_number m ≡ 20) ⊎ (format_number m ≡ 21))))
        → (reception_outcome own m ≡ answered R.Own) ⊎ ((reception_outcome own m ≡ answered R.AllCall) ⊎ (reception_outcome own m ≡ answered R.Broadcast))
    by (inl r) = inl (due R.Own r)
    by (inr (r, inl f)) = inr (inl (due R.AllCall (r, f)))
    by (inr (r, inr f)) = inr (inr (due R.Broadcast (r, f)))

-- by the test of the definition
tested : (own : ℕ) (m : List ℕ) → is_taken (reception_outcome own m) ≡ true → Taken own m
unfolding Taken OursIsDue Due
tested own m t = by ours.0 ours.1 ours.2
  where
    unrefused : Unrefused (reception_outcome own m)
    unrefused n e = never t (ap is_taken e)

    ours : (r : Reception) × (reception_outcome own m ≡ answered r) × Due own m r
    ours = ours_is_due own m unrefused

    by : (r : Reception) → reception_outcome own m ≡ answered r → Due own m r
        → Whole m × (ReadsAs (number m) own ⊎ (ReadsAs (number m) 0xFFFFFF × ((format_number m ≡ 11) ⊎ ((format_number m ≡ 20) ⊎ (format_number m ≡ 21)))))
    by R.Own e d = (received own m unrefused, inl d)
    by R.AllCall e d = (received own m unrefused, inr (d.0, inl d.1))
    by R.Broadcast e d = (received own m unrefused, inr (d.0, inr d.1))
    by (R.NotOurs a) e d = absurd (never t (ap is_taken e))

tests : (own : ℕ) (m : List ℕ) → Permitted own → Taken own m → is_taken (reception_outcome own m) ≡ true
tests own m h t = by (accepted own m h t)
  where
    by : (reception_outcome own m ≡ answered R.Own) ⊎ ((reception_outcome own m ≡ answered R.AllCall) ⊎ (reception_outcome own m ≡ answered R.Broadcast))
        → is_taken (reception_outcome own m) ≡ true
    by (inl e) = ap is_taken e
    by (inr (inl e)) = ap is_taken e
    by (inr (inr e)) = ap is_taken e

pub taken_is_accepted : TakenIsAccepted
unfolding TakenIsAccepted
taken_is_accepted own m h = (accepted own m h, back)
  where
    back : (reception_outcome own m ≡ answered R.Own) ⊎ ((reception_outcome own m ≡ answered R.AllCall) ⊎ (reception_outcome own m ≡ answered R.Broadcast)) → Taken own m
    back (inl e) = tested own m (ap is_taken e)
    back (inr (inl e)) = tested own m (ap is_taken e)
    back (inr (inr e)) = tested own m (ap is_taken e)

pub refused-not-taken : RefusedNotTaken
unfolding RefusedNotTaken
refused-not-taken own m n h e t = never (tests own m h t) (ap is_taken e)

-- ---- the companion

ok_same : {x y : Option Antenna} → ◌≡◌ {A = Result (Option Antenna) Refusal} (Ok x) (Ok y) → x ≡ y
ok_same e = cc

module _ (own : ℕ) (u : List ℕ) (p : ℕ) (l : List ℕ) (q : ℕ) where
  s : Bool
  s = is_taken (reception_outcome own u)

  t : Bool
  t = is_taken (reception_outcome own l)

  given : (x : Option Antenna) → antenna_of own u p l q ≡ Ok x → Permitted own × Case s p t q x
  unfolding s t
  given x e =
      let unrefused : Unrefused (said_antenna (antenna_of own u p l q)) = λ n r. no_refusal x n (sym r ∙ ap said_antenna e) in
      (answers own u p l q unrefused, subst (Case s p t q) (ok_same (unrefused-choice own u p l q unrefused ∙ e)) (case s p t q))

  gives : (x : Option Antenna) → Permitted own → Case s p t q x → antenna_of own u p l q ≡ Ok x
  unfolding s t
  gives x h k = sym (ap (λ (y : Option Antenna). Ok y) (case_only s p t q x k) ∙ unrefused-choice own u p l q (is-answered own u p l q h))

  upper-exactly : (antenna_of own u p l q ≡ Ok (Some Upper)) ↔ (Permitted own × Taken own u × (Taken own l → q ≤ p))
  unfolding s t
  upper-exactly = (
    (λ e. let k = given (Some Upper) e in (k.0, tested own u k.1.0, λ f. k.1.1 (tests own l k.0 f))),
    λ h. gives (Some Upper) h.0 (tests own u h.0 h.1, λ f. h.2 (tested own l f)),
  )

  lower-exactly : (antenna_of own u p l q ≡ Ok (Some Lower)) ↔ (Permitted own × Taken own l × (Taken own u → p < q))
  unfolding s t
  lower-exactly = (
    (λ e. let k = given (Some Lower) e in (k.0, tested own l k.1.0, λ f. k.1.1 (tests own u k.0 f))),
    λ h. gives (Some Lower) h.0 (tests own l h.0 h.1, λ f. h.2 (tested own u f)),
  )

  neither-exactly : (antenna_of own u p l q ≡ Ok None) ↔ (Permitted own × (Taken own u → ⊥) × (Taken own l → ⊥))
  unfolding s t
  neither-exactly = (
    (λ e.
        let k = given None e in
        (k.0, (λ f. k.1.0 (tests own u k.0 f)), λ f. k.1.1 (tests own l k.0 f))),
    λ h. gives None h.0 ((λ f. h.1 (tested own u f)), λ f. h.2 (tested own l f)),
  )

pub says_upper : SaysUpper
unfolding SaysUpper
says_upper = upper-exactly

pub says_lower : SaysLower
unfolding SaysLower
says_lower = lower-exactly

pub says_neither : SaysNeither
unfolding SaysNeither
says_neither = neither-exactly

pub says_refused : SaysRefused
unfolding SaysRefused RefusedByLowest Applies SomeBreaks Breaks handed outcome row Wrong
says_refused own u p l q n = ((λ e. there (lowest.0 e).0), λ h. lowest.1 (back h))
  where
    Row : ℕ → Type 0
    Row k = Breaks k (word own) ⊎ (Breaks k (own_address own) ⊎ ⊥)

    lowest : (said_antenna (antenna_of own u p l q) ≡ refusal n) ↔ (Row n × ((k : ℕ) → k < n → Row k → ⊥))
    lowest = refused_by_lowest (taken_antenna own u p l q) n

    there : Row n → ((n ≡ 3) × (0xFFFFFF < own)) ⊎ ((n ≡ 6) × ((own ≡ 0x000000) ⊎ (own ≡ 0xFFFFFF)))
    there (inl b) = inl (sym b.0, b.1)
    there (inr (inl b)) = inr (sym b.0, b.1)
    there (inr (inr b)) = absurd b

    back : ((n ≡ 3) × (0xFFFFFF < own)) ⊎ ((n ≡ 6) × ((own ≡ 0x000000) ⊎ (own ≡ 0xFFFFFF))) → Row n × ((k : ℕ) → k < n → Row k → ⊥)
    back (inl h) = (inl (sym h.0, h.1), none)
      where
        none : (k : ℕ) → k < n → Row k → ⊥
        none k j (inl b) = omega (arith, h.0, b.0)
        none k j (inr (inl b)) = omega (arith, h.0, b.0)
        none k j (inr (inr b)) = b
    back (inr h) = (inr (inl (sym h.0, h.1)), none)
      where
        small : (own ≡ 0x000000) ⊎ (own ≡ 0xFFFFFF) → 0xFFFFFF < own → ⊥
        small (inl e) g = omega arith
        small (inr e) g = omega arith

        none : (k : ℕ) → k < n → Row k → ⊥
        none k j (inl b) = small h.1 b.1
        none k j (inr (inl b)) = omega (arith, h.0, b.0)
        none k j (inr (inr b)) = b

-- ---- the part

field_sizes : (m : List ℕ) → Whole m → (length (field m) ≡ 4) ⊎ (length (field m) ≡ 11)
unfolding Whole
field_sizes m (inl h) = inl (omega (arith, h.0, field-length m (omega (arith, h.0))))
field_sizes m (inr h) = inr (omega (arith, h.0, field-length m (omega (arith, h.0))))

has-bytes : (m : List ℕ) → Whole m → field m ≡ [] → ⊥
has-bytes m k e = by (field_sizes m k)
  where
    by : (length (field m) ≡ 4) ⊎ (length (field m) ≡ 11) → ⊥
    by (inl f) = omega (arith, f, ap length e)
    by (inr f) = omega (arith, f, ap length e)

module _ (own : ℕ) (upper : Part) (p : ℕ) (lower : Part) (q : ℕ) where
  answer : Result (Option Antenna) Refusal
  answer = antenna_of own upper.1 p lower.1 q

  part : Result (Option Antenna) Refusal → Part
  part x = part_of x upper lower

  upper-whole : answer ≡ Ok (Some Upper) → Whole upper.1
  unfolding answer Taken
  upper-whole e = ((upper-exactly own upper.1 p lower.1 q).0 e).1.0

  lower-whole : answer ≡ Ok (Some Lower) → Whole lower.1
  unfolding answer Taken
  lower-whole e = ((lower-exactly own upper.1 p lower.1 q).0 e).1.0

  upper-field : answer ≡ Ok (Some Upper) → IsField (part answer) upper
  unfolding part IsField
  upper-field e = (ap part e, λ f. has-bytes upper.1 (upper-whole e) (sym (ap (λ (x : Result (Option Antenna) Refusal). (part x).1) e) ∙ f))

  lower-field : answer ≡ Ok (Some Lower) → IsField (part answer) lower
  unfolding part IsField
  lower-field e = (ap part e, λ f. has-bytes lower.1 (lower-whole e) (sym (ap (λ (x : Result (Option Antenna) Refusal). (part x).1) e) ∙ f))

  field-upper : Apart upper lower → (x : Result (Option Antenna) Refusal) → IsField (part x) upper → x ≡ Ok (Some Upper)
  unfolding part IsField Apart
  field-upper d (Ok (Some Upper)) h = refl
  field-upper d (Ok (Some Lower)) h = absurd (d (sym h.0))
  field-upper d (Ok None) h = absurd (h.1 refl)
  field-upper d (Err r) h = absurd (h.1 refl)

  field-lower : Apart upper lower → (x : Result (Option Antenna) Refusal) → IsField (part x) lower → x ≡ Ok (Some Lower)
  unfolding part IsField Apart
  field-lower d (Ok (Some Upper)) h = absurd (d h.0)
  field-lower d (Ok (Some Lower)) h = refl
  field-lower d (Ok None) h = absurd (h.1 refl)
  field-lower d (Err r) h = absurd (h.1 refl)

  is-empty : (answer ≡ Ok None) ⊎ ((r : Refusal) × (answer ≡ Err r)) → part answer ≡ (upper.0, [])
  unfolding part
  is-empty (inl e) = ap part e
  is-empty (inr (r, e)) = ap part e

  no_bytes : (x : Result (Option Antenna) Refusal) → answer ≡ x → (part x).1 ≡ [] → (x ≡ Ok None) ⊎ ((r : Refusal) × (x ≡ Err r))
  unfolding part
  no_bytes (Ok (Some Upper)) e f = absurd (has-bytes upper.1 (upper-whole e) f)
  no_bytes (Ok (Some Lower)) e f = absurd (has-bytes lower.1 (lower-whole e) f)
  no_bytes (Ok None) e f = inl refl
  no_bytes (Err r) e f = inr (r, refl)

  sizes : (x : Result (Option Antenna) Refusal) → answer ≡ x → ((part x).1 ≡ [] → ⊥) → (length (part x).1 ≡ 4) ⊎ (length (part x).1 ≡ 11)
  unfolding part
  sizes (Ok (Some Upper)) e f = field_sizes upper.1 (upper-whole e)
  sizes (Ok (Some Lower)) e f = field_sizes lower.1 (lower-whole e)
  sizes (Ok None) e f = absurd (f refl)
  sizes (Err r) e f = absurd (f refl)

pub upper_part : UpperPart
unfolding UpperPart returned answer part
upper_part own u p l q = (upper-field own u p l q, λ d h. field-upper own u p l q d (antenna_of own u.1 p l.1 q) h)

pub lower_part : LowerPart
unfolding LowerPart returned answer part
lower_part own u p l q = (lower-field own u p l q, λ d h. field-lower own u p l q d (antenna_of own u.1 p l.1 q) h)

pub empty_part : EmptyPart
unfolding EmptyPart returned answer part
empty_part own u p l q = (is-empty own u p l q, λ f. no_bytes own u p l q (antenna_of own u.1 p l.1 q) refl f)

pub part_lengths : PartLengths
unfolding PartLengths returned answer part
part_lengths own u p l q f = sizes own u p l q (antenna_of own u.1 p l.1 q) refl f

-- ---- bursts

-- an interrogation as it was sealed, for an own address that no row refuses
pub undamaged : (own : ℕ) (n : List ℕ) → Permitted own → Bytes n → seal_outcome n own ≡ done → Taken own (interrogation_after n own)
unfolding Permitted Whole Taken SealedCallIsRead UnrefusedWhereNone Applies SomeBreaks Breaks handed outcome row
undamaged own n h hn e = (as-sealed before, inl ((address_law (number (interrogation_after n own)) own (omega (arith, h.0))).0 (sealed_call_is_read n own hn e)))
  where
    before : Whole n
    before =
        let none = (unrefused_where_none (seal_interrogation n own)).0 (λ k r. refusal_is_no_answer (sym r ∙ e)) in
        whole n (λ w. none _ (inl (refl, w))) (λ w. none _ (inr (inr (inl (refl, w)))))

    is : interrogation_after n own ≡ with_parity n (bit_xor (parity (number (field n))) (overlay own))
    is = interrogation_after_lem n own e ∙ interrogation_is n own

    same_length : 4 ≤ length n → length (interrogation_after n own) ≡ length n
    same_length g = ap length is ∙ sealed-length n _ (omega arith)

    same_bit : 4 ≤ length n → first_bit (interrogation_after n own) ≡ first_bit n
    same_bit g = first_bit_by _ n (ap (λ (l : List ℕ). get_or l 0 0) is ∙ sealed_first n _ g)

    as-sealed : Whole n → Whole (interrogation_after n own)
    as-sealed (inl k) = inl (same_length (omega (arith, k.0)) ∙ k.0, same_bit (omega (arith, k.0)) ∙ k.1)
    as-sealed (inr k) = inr (same_length (omega (arith, k.0)) ∙ k.0, same_bit (omega (arith, k.0)) ∙ k.1)

pub burst_never_displaces : BurstNeverDisplaces
unfolding BurstNeverDisplaces BurstNeverOwn
burst_never_displaces own m n w d p q h hm hn em en b no-all-call no-broadcast = (
  (lower-exactly own hit p sent q).1 (h, undamaged own n h hn en, λ t. absurd (lost t)),
  (upper-exactly own sent p hit q).1 (h, undamaged own n h hn en, λ t. absurd (lost t)),
)
  where
    hit : List ℕ
    hit = inverted (interrogation_after m own) d

    sent : List ℕ
    sent = interrogation_after n own

    lost : Taken own hit → ⊥
    lost t = by (accepted own hit h t)
      where
        by : (reception_outcome own hit ≡ answered R.Own) ⊎ ((reception_outcome own hit ≡ answered R.AllCall) ⊎ (reception_outcome own hit ≡ answered R.Broadcast)) → ⊥
        by (inl e) = burst_never_own m own w d hm em b e
        by (inr (inl e)) = no-all-call e
        by (inr (inr e)) = no-broadcast e
