-- Demand 2, accepting, and the first sentence of demand 3. The idea: a transponder's answer goes by the address read, which
-- depends on the remainder alone; each sentence is one answer's case of 'ours is due' and 'only one is due'; and no nonzero
-- pattern inside a window has remainder 0.
use mathlib.Core.Path.{◌≡◌, sym, ap, ◌∙◌, subst}
use mathlib.Core.Logic.{◌↔◌}
use mathlib.Core.List.{List}
use Prim.Native.Nat.{ℕ, ◌*◌, ◌^◌, ◌<◌, ◌≤◌}
use native.Mathlib.Nat.{lt_irrefl}
use lib.Dec.{lit<}
use lib.Bits.{bit_xor, xor_self}
use lib.ListN.{length}
use Rattle.outcome.specs.Outcomes.{Unrefused}
use Rattle.outcome.proofs.Laws.{refusal_is_no_answer}
use Rattle.message.specs.Message.{number, Bytes, field, format_number}
use Rattle.message.specs.Bits.{place, inverted}
use Rattle.message.proofs.Laws.{message-length_ge, in_window_lt, inverted-number}
use Rattle.division.specs.Division.{remainder, parity, overlay, address_read}
use Rattle.division.proofs.Laws.{xor_cancel, remainder-xor, burst_noticed, address_law, address_read-lt, remainder_by_address, overlay-lt}
use Rattle.encoder.specs.Seals.{interrogation_after, with_parity}
use Rattle.encoder.proofs.Laws.{was_accepted, interrogation_after_lem, interrogation_is, sealed-length, sealed-bytes, reply-lt}
use Rattle.transponder.specs.Receptions.{everyone, reception_of, reception_outcome, answered}
use Rattle.transponder.specs.declared.Reception.{Reception}
use Rattle.transponder.specs.declared.Reception.TheVariants.{Own, AllCall, Broadcast, NotOurs}
use Rattle.transponder.proofs.Laws.{Case, case, case_only, Admitted, admitted, answered_injective}
use Rattle.conformance.specs.Bursts.{Burst}
use Rattle.conformance.specs.Accepting.{Due, OursIsDue, OnlyOneIsDue, ExactlyOneIsDue, SaysOwn, SaysAllCall, SaysBroadcast, SaysNotOurs, BurstNeverOwn}
use Rattle.conformance.specs.Sealing.{SealedCallIsRead}
use Rattle.conformance.proofs.Sealing.{sealed_call_is_read}

-- ---- the condition of an answer, by the address read and by document 01

module _ (own : ℕ) (m : List ℕ) (ok : Admitted own m) where
  a : ℕ
  a = address_read (number m)

  due-of : (r : Reception) → Case own a (format_number m) r → Due own m r
  unfolding Due a
  due-of Own e = (address_law (number m) own ok.own_lt).0 e
  due-of AllCall h = ((address_law (number m) everyone (lit< tt)).0 h.1, h.2)
  due-of Broadcast h = ((address_law (number m) everyone (lit< tt)).0 h.1, h.2)
  due-of (NotOurs b) h =
      let small : b < 2 ^ 24 = subst (λ (y : ℕ). y < 2 ^ 24) (sym h.0) (address_read-lt (number m)) in (
        small,
        (address_law (number m) b small).0 (sym h.0),
        (λ q. h.1 (sym h.0 ∙ q)),
        (λ q. h.2 (sym h.0 ∙ q)),
      )

  of-due : (r : Reception) → Due own m r → Case own a (format_number m) r
  unfolding Due a
  of-due Own e = (address_law (number m) own ok.own_lt).1 e
  of-due AllCall h =
      let all : address_read (number m) ≡ everyone = (address_law (number m) everyone (lit< tt)).1 h.0 in
      ((λ q. ok.not-everyone (sym q ∙ all)), all, h.1)
  of-due Broadcast h =
      let all : address_read (number m) ≡ everyone = (address_law (number m) everyone (lit< tt)).1 h.0 in
      ((λ q. ok.not-everyone (sym q ∙ all)), all, h.1)
  of-due (NotOurs b) h =
      let same : address_read (number m) ≡ b = (address_law (number m) b h.0).1 h.1 in
      (sym same, (λ q. h.2 (sym same ∙ q)), (λ q. h.3 (sym same ∙ q)))

pub ours_is_due : OursIsDue
unfolding OursIsDue a
ours_is_due own m h =
    let ok = admitted own m h in
    let r : Reception = reception_of own (address_read (number m)) (format_number m) in
    (r, ok.outcome, due-of own m ok r (case own (address_read (number m)) (format_number m)))

pub only_one_is_due : OnlyOneIsDue
unfolding OnlyOneIsDue a
only_one_is_due own m h r d =
    let ok = admitted own m h in
    ok.outcome ∙ ap answered (sym (case_only own (address_read (number m)) (format_number m) r (of-due own m ok r d)))

pub exactly_one_is_due : ExactlyOneIsDue
unfolding ExactlyOneIsDue OursIsDue OnlyOneIsDue
exactly_one_is_due own m h =
    let ours = ours_is_due own m h in (
      ours.0,
      λ s. ((λ d. answered_injective s ours.0 (sym (only_one_is_due own m h s d) ∙ ours.1)), λ e. subst (Due own m) (sym e) ours.2),
    )

-- ---- the sentences

sentence : (own : ℕ) (m : List ℕ) → Unrefused (reception_outcome own m) → (r : Reception) → (reception_outcome own m ≡ answered r) ↔ Due own m r
unfolding OursIsDue OnlyOneIsDue
sentence own m h r =
    let ours = ours_is_due own m h in
    ((λ e. subst (Due own m) (answered_injective ours.0 r (sym ours.1 ∙ e)) ours.2), only_one_is_due own m h r)

pub says_own : SaysOwn
unfolding SaysOwn Due
says_own own m h = sentence own m h Own

pub says_all-call : SaysAllCall
unfolding SaysAllCall Due
says_all-call own m h = sentence own m h AllCall

pub says_broadcast : SaysBroadcast
unfolding SaysBroadcast Due
says_broadcast own m h = sentence own m h Broadcast

pub says_not_ours : SaysNotOurs
unfolding SaysNotOurs Due
says_not_ours own m x h = sentence own m h (NotOurs x)

-- ---- bursts

-- what an 'own' was read as, also without knowing that the call was not refused
pub own_read : (own : ℕ) (m : List ℕ) → reception_outcome own m ≡ answered Own → address_read (number m) ≡ own
unfolding SaysOwn
own_read own m o = (address_law (number m) own (admitted own m unrefused).own_lt).1 ((says_own own m unrefused).0 o)
  where
    unrefused : Unrefused (reception_outcome own m)
    unrefused n e = refusal_is_no_answer (sym e ∙ o)

-- a pattern placed in a window leaves no remainder only if it is zero
pub hit_differs : (m : List ℕ) (w d : ℕ) → Bytes m → 3 ≤ length m → Burst m w d → remainder (number (inverted m d)) ≡ remainder (number m) → ⊥
unfolding Burst
hit_differs m w d hm ge b e =
    lt_irrefl 0 (subst (λ (p : ℕ). 0 < p) (burst_noticed b.1 (place m w) b.3 none) b.2)
  where
    none : remainder (b.1 * 2 ^ place m w) ≡ 0
    none =
        ap remainder (sym b.4) ∙ sym (xor_cancel (remainder (number m)) (remainder d))
        ∙ ap (bit_xor (remainder (number m)))
        (sym (remainder-xor (number m) d) ∙ ap remainder (sym (inverted-number m d hm (in_window_lt m w d ge b))) ∙ e)
        ∙ xor_self (remainder (number m))

pub burst_never_own : BurstNeverOwn
unfolding BurstNeverOwn SealedCallIsRead
burst_never_own m a w d hm e b o =
    hit_differs s w d bytes ge b
    (remainder_by_address (number (inverted s d)) ∙ ap overlay (own_read a (inverted s d) o ∙ sym (sealed_call_is_read m a hm e)) ∙ sym (remainder_by_address (number s)))
  where
    s : List ℕ
    s = interrogation_after m a

    large : 3 ≤ length m
    large = message-length_ge (length m) (was_accepted m a e).0

    is : s ≡ with_parity m (bit_xor (parity (number (field m))) (overlay a))
    is = interrogation_after_lem m a e ∙ interrogation_is m a

    bytes : Bytes s
    bytes = subst Bytes (sym is) (sealed-bytes m (bit_xor (parity (number (field m))) (overlay a)) large hm (reply-lt m (overlay a) (overlay-lt a)))

    ge : 3 ≤ length s
    ge = subst (λ (l : List ℕ). 3 ≤ length l) (sym is) (subst (λ (n : ℕ). 3 ≤ n) (sym (sealed-length m (bit_xor (parity (number (field m))) (overlay a)) large)) large)
