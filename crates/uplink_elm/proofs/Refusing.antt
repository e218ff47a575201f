-- Rows 10 and 11 of the refusals: the tests, their conditions in the words of document 02, Point 7, and the answer as a chain of
-- tests behind the transponder's. The idea: the effect and the two tests go by the same RC.
use mathlib.Core.Path.{◌≡◌, refl, sym, ap, ap₂, ◌∙◌}
use mathlib.Core.Bool.{Bool, true, false, not, cond, ◌&&◌}
use mathlib.Core.Logic.{◌⊎◌, inl, inr, ◌↔◌}
use mathlib.Core.List.{List}
use Prim.Native.Nat.{ℕ, zero, suc, ◌<◌}
use lib.Dec.{eqb, leb}
use borrow.Author.Tests.{eqb-true, eq-eqb, leb-false, lt-leb, not-true}
use Rattle.std.specs.Prelude.{Some, None, Ok, Err}
use Rattle.outcome.specs.Outcomes.{Outcome, unless}
use Rattle.outcome.specs.Outcomes.Outcome.{refusal, answer}
use Rattle.outcome.specs.Refusals.{nothing_opened, number_above_last}
use Rattle.outcome.specs.declared.Refusal.TheVariants.{NothingOpened, NumberAboveLast}
use Rattle.outcome.proofs.Laws.{never, both, refusal_is_no_answer}
use Rattle.message.specs.Message.{number, format_number}
use Rattle.division.specs.Division.{address_read}
use Rattle.transponder.specs.Receptions.{reception_of, reception_outcome, answered}
use Rattle.transponder.specs.declared.Reception.TheVariants as R
use Rattle.transponder.proofs.Laws.{admitted}
use Rattle.uplink_elm.specs.declared.Receiver.{Receiver}
use Rattle.uplink_elm.specs.Segments.{is_extended, reply_control, segment_number, bit_of, with_number}
use Rattle.uplink_elm.specs.Receiving.{Effect, progress_of, with_progress, effect_of, own_effect, is_own, call_effect, receiver_of, outcome_of, receiving_outcome, receiver_after}
use Rattle.uplink_elm.proofs.Effects.{own_answer}

-- ---- the tests, by RC, NC and the receiver

abbrev pub opens_none : ℕ → ℕ → Receiver → Bool
opens_none zero n r = eqb n 0
opens_none (suc zero) n r = not r.opened
opens_none (suc (suc zero)) n r = not r.opened
opens_none (suc (suc (suc c))) n r = false

abbrev pub is_above : ℕ → ℕ → Receiver → Bool
is_above zero n r = false
is_above (suc zero) n r = r.opened && not (leb n r.last)
is_above (suc (suc zero)) n r = r.opened && not (leb n r.last)
is_above (suc (suc (suc c))) n r = false

-- of a call, 'only where the answer is 'own' and the format this one'
abbrev pub of_own : ℕ → List ℕ → Bool → Bool
of_own own m t = is_own (reception_outcome own m) && (is_extended m && t)

abbrev pub unopened : ℕ → List ℕ → Receiver → Bool
unopened own m r = of_own own m (opens_none (reply_control m) (segment_number m) r)

abbrev pub above : ℕ → List ℕ → Receiver → Bool
above own m r = of_own own m (is_above (reply_control m) (segment_number m) r)

-- ---- their conditions

abbrev pub Adding : ℕ → Type 0
Adding c = (c ≡ 1) ⊎ (c ≡ 2)

pub opens-none : (c n : ℕ) (r : Receiver) → (opens_none c n r ≡ true) ↔ ((Adding c × (r.opened ≡ false)) ⊎ ((c ≡ 0) × (n ≡ 0)))
opens-none c n r = (to c, from c)
  where
    to : (c : ℕ) → opens_none c n r ≡ true → (Adding c × (r.opened ≡ false)) ⊎ ((c ≡ 0) × (n ≡ 0))
    to zero e = inr (refl, eqb-true n 0 e)
    to (suc zero) e = inl (inl refl, not-true r.opened e)
    to (suc (suc zero)) e = inl (inr refl, not-true r.opened e)
    to (suc (suc (suc c))) e = absurd (never e refl)

    adding : (c : ℕ) → Adding c → r.opened ≡ false → opens_none c n r ≡ true
    adding c (inl e) o = ap (λ (x : ℕ). opens_none x n r) e ∙ ap not o
    adding c (inr e) o = ap (λ (x : ℕ). opens_none x n r) e ∙ ap not o

    from : (c : ℕ) → (Adding c × (r.opened ≡ false)) ⊎ ((c ≡ 0) × (n ≡ 0)) → opens_none c n r ≡ true
    from c (inl h) = adding c h.0 h.1
    from c (inr h) = ap (λ (x : ℕ). opens_none x n r) h.0 ∙ eq-eqb n 0 h.1

pub is_above_lem : (c n : ℕ) (r : Receiver) → (is_above c n r ≡ true) ↔ (Adding c × (r.opened ≡ true) × (r.last < n))
is_above_lem c n r = (to c, from c)
  where
    higher : (r.opened && not (leb n r.last)) ≡ true → (r.opened ≡ true) × (r.last < n)
    higher e = let p = both r.opened (not (leb n r.last)) e in (p.0, leb-false n r.last (not-true (leb n r.last) p.1))

    to : (c : ℕ) → is_above c n r ≡ true → Adding c × (r.opened ≡ true) × (r.last < n)
    to zero e = absurd (never e refl)
    to (suc zero) e = (inl refl, (higher e).0, (higher e).1)
    to (suc (suc zero)) e = (inr refl, (higher e).0, (higher e).1)
    to (suc (suc (suc c))) e = absurd (never e refl)

    back : r.opened ≡ true → r.last < n → (r.opened && not (leb n r.last)) ≡ true
    back o l = ap₂ ◌&&◌ o (ap not (lt-leb n r.last l))

    from : (c : ℕ) → Adding c × (r.opened ≡ true) × (r.last < n) → is_above c n r ≡ true
    from c (inl e, o, l) = ap (λ (x : ℕ). is_above x n r) e ∙ back o l
    from c (inr e, o, l) = ap (λ (x : ℕ). is_above x n r) e ∙ back o l

pub of_own_lem : (own : ℕ) (m : List ℕ) (t : Bool) → (of_own own m t ≡ true) ↔ ((reception_outcome own m ≡ answered R.Own) × (is_extended m ≡ true) × (t ≡ true))
of_own_lem own m t = (
  (λ e.
      let p = both (is_own (reception_outcome own m)) (is_extended m && t) e in
      let q = both (is_extended m) t p.1 in
      (sym (own_answer own m p.0), q.0, q.1)),
  λ h. ap₂ ◌&&◌ (ap is_own h.0) (ap₂ ◌&&◌ h.1 h.2),
)

-- ---- the answer as a chain of tests

-- what stands behind the transponder's refusals
abbrev pub onward : Outcome → Outcome → Outcome
onward (refusal n) o = refusal n
onward (answer n vs) o = o

-- the two rows before an answer
abbrev pub two_rows : Bool → Bool → Outcome → Outcome
two_rows s t o = unless (not s) nothing_opened (unless (not t) number_above_last o)

adding-rows : (n : ℕ) (r : Receiver) (o : Outcome) (a u : Bool)
    → let e : Effect = cond a (cond u (Ok (Some (record { opened = true; last = r.last; held = with_number r.held n }))) (Err NumberAboveLast)) (Err NothingOpened) in
    two_rows (not a) (a && not u) (with_progress o (progress_of (receiver_of e r))) ≡ outcome_of e o r
adding-rows n r o true true = refl
adding-rows n r o true false = refl
adding-rows n r o false u = refl

by_effect : (c n : ℕ) (r : Receiver) (o : Outcome)
    → two_rows (opens_none c n r) (is_above c n r) (with_progress o (progress_of (receiver_of (effect_of c n r) r))) ≡ outcome_of (effect_of c n r) o r
unfolding effect_of
by_effect zero n r o = opening (eqb n 0)
  where
    opening : (t : Bool) → two_rows t false (with_progress o (progress_of (receiver_of (cond t (Err NothingOpened) (Ok (Some (record { opened = true; last = n; held = bit_of n })))) r)))
        ≡ outcome_of (cond t (Err NothingOpened) (Ok (Some (record { opened = true; last = n; held = bit_of n })))) o r
    opening true = refl
    opening false = refl
by_effect (suc zero) n r o = adding-rows n r o r.opened (leb n r.last)
by_effect (suc (suc zero)) n r o = adding-rows n r o r.opened (leb n r.last)
by_effect (suc (suc (suc c))) n r o = refl

module _ (own : ℕ) (m : List ℕ) (r : Receiver) where
  behind : (o : Outcome) → two_rows (unopened own m r) (above own m r) (with_progress o (progress_of (receiver_after own m r))) ≡ outcome_of (call_effect own m r) o r
  unfolding receiver_after call_effect own_effect
  behind o = by (is_own (reception_outcome own m)) (is_extended m)
    where
      by : (x y : Bool)
          → let e : Effect = cond x (cond y (effect_of (reply_control m) (segment_number m) r) (Ok None)) (Ok None) in
          two_rows (x && (y && opens_none (reply_control m) (segment_number m) r)) (x && (y && is_above (reply_control m) (segment_number m) r)) (with_progress o (progress_of (receiver_of e r)))
          ≡ outcome_of e o r
      by true true = by_effect (reply_control m) (segment_number m) r o
      by true false = refl
      by false y = refl

  -- the transponder's refusals, then rows 10 and 11, then the transponder's answer with the progress
  pub by-reception : onward (reception_outcome own m)
      (two_rows (unopened own m r) (above own m r) (with_progress (answered (reception_of own (address_read (number m)) (format_number m))) (progress_of (receiver_after own m r))))
      ≡ receiving_outcome own m r
  unfolding receiving_outcome call_effect
  by-reception = by (reception_outcome own m) refl
    where
      rows : Outcome → Outcome
      rows o = two_rows (unopened own m r) (above own m r) (with_progress o (progress_of (receiver_after own m r)))

      by : (x : Outcome) → reception_outcome own m ≡ x
          → onward x (rows (answered (reception_of own (address_read (number m)) (format_number m)))) ≡ outcome_of (call_effect own m r) (reception_outcome own m) r
      by (refusal n) e = sym (ap (λ (q : Outcome). outcome_of (cond (is_own q) (own_effect m r) (Ok None)) q r) e)
      by (answer n vs) e =
          ap rows (sym (admitted own m (λ k f. refusal_is_no_answer (sym f ∙ e))).outcome) ∙ behind (reception_outcome own m)
