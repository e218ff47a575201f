-- Extended length messages from the encoder to the receiver. The idea: what was sealed for the own address is one step of the plain
-- machine, by its RC; along the steps every segment held is the one that was sent, and what is held stays; the receiver is the
-- machine's. A hit interrogation is not own, and so does nothing.
use mathlib.Core.Path.{◌≡◌, refl, sym, ap, ap₂, ◌∙◌, subst}
use mathlib.Core.Bool.{Bool, true, false, cond}
use mathlib.Core.Logic.{◌⊎◌, inl, inr}
use mathlib.Core.List.{List, [], ◌∷◌, ◌++◌}
use mathlib.Core.Option.{Option, get_or}
use mathlib.Core.Option.Option.{none, some}
use Prim.Native.Nat.{ℕ, ◌≤◌, ◌<◌}
use native.Mathlib.Nat.{le_refl, eq-or-lt_of_le}
use native.Mathlib.Omega.{arith}
use lib.Dec.{eqb, leb}
use borrow.Author.Tests.{eqb-true, eq-eqb, leb-true, leb-false}
use Rattle.outcome.proofs.Laws.{never}
use Rattle.message.specs.Bits.{inverted}
use Rattle.encoder.specs.Seals.{interrogation_after}
use Rattle.transponder.specs.Receptions.{Permitted, reception_outcome}
use Rattle.uplink_elm.specs.Segments.{segment_number, segment, is_held, segment_at}
use Rattle.uplink_elm.specs.Receiving.{is_own, progress_of, with_progress, receiving_outcome, receiver_after, segments_after}
use Rattle.uplink_elm.proofs.Laws.{own_answer, other_leaves, whole_of_held}
use Rattle.uplink_elm_meaning.specs.Machine.{Machine, start, is_some, storing, does, resulting, machine_after}
use Rattle.uplink_elm_meaning.specs.Running.{State, fresh, after_all, machine_after_all, Same}
use Rattle.uplink_elm_meaning.proofs.Laws.{same-all, machine_after-none, machine_after-one, machine_after-append, opened_with, added_to, sealed-number-is, sealed-step}
use Rattle.conformance.specs.Accepting.{BurstNeverOwn}
use Rattle.conformance.specs.Uploads.{Sent, Each, Some, received, SentIsReceived, BurstChangesNothing}
use Rattle.conformance.proofs.Accepting.{burst_never_own}

-- ---- what was sealed is one step of the machine

module _ (own c n : ℕ) (b m : List ℕ) (h : Permitted own) (q : Sent own c n b m) where
  pub sent-number : segment_number m ≡ n
  sent-number = ap segment_number q.sealed ∙ sealed-number-is own q.unsealed h q.not-refused q.format ∙ q.number_is

  pub sent-step : (s : Machine) → machine_after own m s ≡ resulting (does c n b s) s
  sent-step s =
      ap (λ (l : List ℕ). machine_after own l s) q.sealed ∙ sealed-step own q.unsealed h q.not-refused q.format s
      ∙ ap (λ (x : ℕ). resulting (does x (segment_number q.unsealed) (segment q.unsealed) s) s) q.control_is
      ∙ ap₂ (λ (x : ℕ) (y : List ℕ). resulting (does c x y s) s) q.number_is q.segment_is

-- ---- along the steps

module _ (own last : ℕ) (bytes : ℕ → List ℕ) (h : Permitted own) where
  -- a message with this last number is opened, and what is held of it is what was sent
  record Partly (s : Machine) : Type 0 where
    opened : s.opened ≡ true
    last-is : s.last ≡ last
    as-sent : (k : ℕ) → (s.segments k ≡ none) ⊎ ((k ≤ last) × (s.segments k ≡ some (bytes k)))

  -- the machine with segment k stored
  with-segment : ℕ → (ℕ → Option (List ℕ)) → Machine
  with-segment k f = record { opened = true; last = last; segments = storing k (bytes k) f }

  stored-as-sent : (k : ℕ) (f : ℕ → Option (List ℕ)) → k ≤ last → ((j : ℕ) → (f j ≡ none) ⊎ ((j ≤ last) × (f j ≡ some (bytes j))))
      → Partly (with-segment k f)
  unfolding with-segment
  stored-as-sent k f l g = record { opened = refl; last-is = refl; as-sent = λ j. by j (eqb j k) refl }
    where
      by : (j : ℕ) (t : Bool) → eqb j k ≡ t → (cond t (some (bytes k)) (f j) ≡ none) ⊎ ((j ≤ last) × (cond t (some (bytes k)) (f j) ≡ some (bytes j)))
      by j true e = let p : j ≡ k = eqb-true j k e in inr (subst (λ (x : ℕ). x ≤ last) (sym p) l, ap (λ (x : ℕ). some (bytes x)) (sym p))
      by j false e = g j

  here : (k : ℕ) (f : ℕ → Option (List ℕ)) → (with-segment k f).segments k ≡ some (bytes k)
  unfolding with-segment
  here k f = ap (λ (t : Bool). cond t (some (bytes k)) (f k)) (eq-eqb k k refl)

  stays : (k j : ℕ) (f : ℕ → Option (List ℕ)) → f j ≡ some (bytes j) → (with-segment k f).segments j ≡ some (bytes j)
  unfolding with-segment
  stays k j f e = by (eqb j k) refl
    where
      by : (t : Bool) → eqb j k ≡ t → cond t (some (bytes k)) (f j) ≡ some (bytes j)
      by true g = ap (λ (x : ℕ). some (bytes x)) (sym (eqb-true j k g))
      by false g = e

  opened-by : 1 ≤ last → (m : List ℕ) → Sent own 0 last (bytes last) m → (s : Machine) → machine_after own m s ≡ with-segment last (λ k. none)
  unfolding with-segment
  opened-by l m q s = sent-step own 0 last (bytes last) m h q s ∙ opened_with last (bytes last) s (λ z. omega (arith, z, l))

  added-by : (k : ℕ) (m : List ℕ) → k ≤ last → Sent own 1 k (bytes k) m → (s : Machine) → Partly s → machine_after own m s ≡ with-segment k s.segments
  unfolding with-segment
  added-by k m l q s g =
      sent-step own 1 k (bytes k) m h q s ∙ added_to k (bytes k) s g.opened (subst (λ (x : ℕ). k ≤ x) (sym g.last-is) l)
      ∙ ap (λ (x : ℕ). record { opened = true; last = x; segments = storing k (bytes k) s.segments }) g.last-is

  Adds : List ℕ → Type 0
  Adds m = (k : ℕ) × ((k ≤ last) × Sent own 1 k (bytes k) m)

  -- a machine x that some messages leave of s
  Left : List (List ℕ) → Machine → Machine → Type 0
  Left ms s x = Partly x × ((j : ℕ) → (s.segments j ≡ some (bytes j)) ⊎ Some (Sent own 1 j (bytes j)) ms → x.segments j ≡ some (bytes j))

  along : (ms : List (List ℕ)) → Each Adds ms → (s : Machine) → Partly s → Left ms s (machine_after_all (received own ms) s)
  unfolding Each Some received Adds Left
  along [] a s g = subst (Left [] s) (sym (machine_after-none s)) (g, only)
    where
      only : (j : ℕ) → (s.segments j ≡ some (bytes j)) ⊎ ⊥ → s.segments j ≡ some (bytes j)
      only j (inl e) = e
      only j (inr e) = absurd e
  along (m ∷ ms) ((k, (l, q)), a) s g =
      let rest = along ms a (machine_after own m s) (subst Partly (sym (added-by k m l q s g)) (stored-as-sent k s.segments l g.as-sent)) in
      subst (Left (m ∷ ms) s) (sym (machine_after-one _ (received own ms) s)) (rest.0, λ j e. rest.1 j (came j e))
    where
      next : machine_after own m s ≡ with-segment k s.segments
      next = added-by k m l q s g

      came : (j : ℕ) → (s.segments j ≡ some (bytes j)) ⊎ (Sent own 1 j (bytes j) m ⊎ Some (Sent own 1 j (bytes j)) ms)
          → ((machine_after own m s).segments j ≡ some (bytes j)) ⊎ Some (Sent own 1 j (bytes j)) ms
      came j (inl e) = inl (ap (λ (x : Machine). x.segments j) next ∙ stays k j s.segments e)
      came j (inr (inl p)) =
          let same : k ≡ j = sym (sent-number own 1 k (bytes k) m h q) ∙ sent-number own 1 j (bytes j) m h p in
          inl (ap (λ (x : Machine). x.segments j) next ∙ subst (λ (x : ℕ). (with-segment k s.segments).segments x ≡ some (bytes x)) same (here k s.segments))
      came j (inr (inr e)) = inr e

-- ---- the receiver

picked_some : (u : Bool) (x y : List ℕ) → cond u (some x) none ≡ some y → (u ≡ true) × (x ≡ y)
picked_some true x y e = (refl, ap (λ (o : Option (List ℕ)). get_or o []) e)
picked_some false x y e = absurd (never refl (sym (ap is_some e)))

picked_none : (u : Bool) (x : List ℕ) → cond u (some x) none ≡ none → u ≡ false
picked_none true x e = absurd (never refl (ap is_some e))
picked_none false x e = refl

pub sent_is_received : SentIsReceived
unfolding SentIsReceived received Adds Left with-segment
sent_is_received own last bytes before opening others places h long l q a each = (
  whole_of_held t.receiver (same.0 ∙ all.0.opened) (λ k g. (stored k (subst (λ (x : ℕ). k ≤ x) last-is g)).0),
  last-is,
  (λ k. held k (leb k last) refl),
  λ k g. (stored k g).1,
)
  where
    t : State
    t = after_all (before ++ received own (opening ∷ others)) (fresh places)

    opened : Machine
    opened = with-segment own last bytes h last (λ k. none)

    final : Machine
    final = machine_after_all (received own others) opened

    is_final : machine_after_all (before ++ received own (opening ∷ others)) start ≡ final
    is_final =
        machine_after-append before (received own (opening ∷ others)) start
        ∙ machine_after-one _ (received own others) (machine_after_all before start)
        ∙ ap (machine_after_all (received own others)) (opened-by own last bytes h l opening q (machine_after_all before start))

    same : Same t final
    same = subst (Same t) is_final (same-all places (before ++ received own (opening ∷ others)) long)

    all : Partly own last bytes h final
        × ((j : ℕ) → (opened.segments j ≡ some (bytes j)) ⊎ Some (Sent own 1 j (bytes j)) others → final.segments j ≡ some (bytes j))
    all = along own last bytes h others a opened (stored-as-sent own last bytes h last (λ k. none) (le_refl last) (λ j. inl refl))

    last-is : t.receiver.last ≡ last
    last-is = same.1 ∙ all.0.last-is

    sent : (k : ℕ) → (k ≡ last) ⊎ (k < last) → final.segments k ≡ some (bytes k)
    sent k (inl e) = all.1 k (inl (subst (λ (x : ℕ). opened.segments x ≡ some (bytes x)) (sym e) (here own last bytes h last (λ j. none))))
    sent k (inr g) = all.1 k (inr (each k g))

    stored : (k : ℕ) → k ≤ last → (is_held t.receiver.held k ≡ true) × (segment_at t.places k ≡ bytes k)
    stored k g = picked_some (is_held t.receiver.held k) (segment_at t.places k) (bytes k) (same.2 k ∙ sent k (eq-or-lt_of_le g))

    none_above : (k : ℕ) → last < k → (final.segments k ≡ none) ⊎ ((k ≤ last) × (final.segments k ≡ some (bytes k))) → final.segments k ≡ none
    none_above k g (inl e) = e
    none_above k g (inr e) = absurd (omega (arith, g, e.0))

    held : (k : ℕ) (u : Bool) → leb k last ≡ u → is_held t.receiver.held k ≡ u
    held k true e = (stored k (leb-true k last e)).0
    held k false e = picked_none (is_held t.receiver.held k) (segment_at t.places k) (same.2 k ∙ none_above k (leb-false k last e) (all.0.as-sent k))

-- ---- bursts

pub burst_changes_nothing : BurstChangesNothing
unfolding BurstChangesNothing BurstNeverOwn
burst_changes_nothing own m w d r places hm e b = (leaves.1, leaves.2, leaves.0)
  where
    hit : List ℕ
    hit = inverted (interrogation_after m own) d

    not_own : (t : Bool) → is_own (reception_outcome own hit) ≡ t → t ≡ false
    not_own true p = absurd (burst_never_own m own w d hm e b (sym (own_answer own hit p)))
    not_own false p = refl

    leaves : (receiving_outcome own hit r ≡ with_progress (reception_outcome own hit) (progress_of r)) × (receiver_after own hit r ≡ r) × (segments_after own hit r places ≡ places)
    leaves = other_leaves own hit r places (not_own (is_own (reception_outcome own hit)) refl)
