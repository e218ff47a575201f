-- What division alone notices. The idea: a change passes exactly where its own remainder is zero, whatever the message, so that
-- each statement is one law of the crate notices about the number of the changed bits.
use mathlib.Core.Path.{◌≡◌, sym, ap, ◌∙◌, subst}
use mathlib.Core.Logic.{◌⊎◌, inl, inr}
use mathlib.Core.Bool.{cond}
use mathlib.Core.List.{List}
use Prim.Native.Nat.{ℕ, ◌+◌, ◌*◌, ◌-◌, ◌%◌, ◌^◌, ◌<◌, ◌≤◌}
use native.Mathlib.Nat.{lt_irrefl, lt_of_lt_of_le}
use native.Mathlib.Omega.{arith}
use lib.Bits.{bit_xor, xor_self, xor_zero_r}
use lib.Count.{ones}
use lib.Dec.{eqb}
use lib.ListN.{length}
use lib.Pow.{pow_mono}
use Rattle.outcome.specs.Outcomes.{done}
use Rattle.outcome.proofs.Laws.{refusal_is_no_answer}
use Rattle.message.specs.Message.{number, Bytes, field}
use Rattle.message.specs.Bits.{bits, inverted}
use Rattle.message.proofs.Laws.{message-length, message-length_ge, inverted-bytes, inverted-number}
use Rattle.division.specs.Polynomial.{product}
use Rattle.division.specs.Division.{generator, quotient, remainder, parity, overlay}
use Rattle.division.proofs.Laws.{xor_cancel, remainder-xor, division_equation, multiple, product_lt, quotient-lt, remainder_by_address, overlay-lt}
use Rattle.encoder.specs.Seals.{seal_outcome, reply_after, interrogation_after, with_parity}
use Rattle.encoder.proofs.Laws.{was_accepted, reply-after, interrogation_after_lem, reply_is, interrogation_is, reply-lt, sealed-length, sealed-bytes, remainder_sealed}
use Rattle.transponder.specs.Receptions.{reception_outcome, answered}
use Rattle.transponder.specs.declared.Reception.TheVariants.{Own}
use Rattle.sensor.specs.Verdicts.{clean_answer, sensor_outcome}
use Rattle.notices.proofs.Laws.{even_of_zero, two_noticed, five_noticed, seven_noticed, two_of_eight, two_of_twelve}
use Rattle.conformance.specs.Correcting.{Judged, SaysClean}
use Rattle.conformance.specs.Noticing.{ByTwos, Exactly, UpTo, TwoBursts, OddNeverClean, OddNeverOwn, TwoNeverClean, TwoNeverOwn, FewNeverClean, FewNeverOwn, TwoBurstsNeverClean, TwoBurstsNeverOwn, PassExactly, OneInTwoTo24}
use Rattle.conformance.proofs.Accepting.{own_read}
use Rattle.conformance.proofs.Correcting.{says_clean}

-- ---- a sealed message, and a change of it

record SealedAs (m s : List ℕ) (r : ℕ) : Type 0 where
  same_length : length s ≡ length m
  bytes : Bytes s
  carried : remainder (number s) ≡ r

with-sum : (m s : List ℕ) (x : ℕ) → Bytes m → seal_outcome m x ≡ done → (y : ℕ) → y < 2 ^ 24
    → s ≡ with_parity m (bit_xor (parity (number (field m))) y) → SealedAs m s y
with-sum m s x hm e y hy is =
    let long = (was_accepted m x e).0 in
    let ge = message-length_ge (length m) long in
    let p : ℕ = bit_xor (parity (number (field m))) y in
    record {
      same_length = ap length is ∙ sealed-length m p ge;
      bytes = subst Bytes (sym is) (sealed-bytes m p ge hm (reply-lt m y hy));
      carried = ap (λ (l : List ℕ). remainder (number l)) is ∙ remainder_sealed m y ge hy;
    }

sealed_reply : (m : List ℕ) (w : ℕ) → Bytes m → seal_outcome m w ≡ done → SealedAs m (reply_after m w) w
sealed_reply m w hm e = with-sum m (reply_after m w) w hm e w (was_accepted m w e).1 (reply-after m w e ∙ reply_is m w)

sealed_interrogation : (m : List ℕ) (a : ℕ) → Bytes m → seal_outcome m a ≡ done → SealedAs m (interrogation_after m a) (overlay a)
sealed_interrogation m a hm e =
    with-sum m (interrogation_after m a) a hm e (overlay a) (overlay-lt a) (interrogation_after_lem m a e ∙ interrogation_is m a)

module _ (m s : List ℕ) (r d : ℕ) (k : SealedAs m s r) (h : d < 2 ^ bits m) where
  changed : remainder (number (inverted s d)) ≡ bit_xor r (remainder d)
  changed =
      ap remainder (inverted-number s d k.bytes (subst (λ (n : ℕ). d < 2 ^ (8 * n)) (sym k.same_length) h))
      ∙ remainder-xor (number s) d ∙ ap (λ (x : ℕ). bit_xor x (remainder d)) k.carried

  -- it passes exactly where its own remainder is zero
  passed-zero : remainder (number (inverted s d)) ≡ r → remainder d ≡ 0
  passed-zero e = sym (xor_cancel r (remainder d)) ∙ ap (bit_xor r) (sym changed ∙ e) ∙ xor_self r

  zero-passed : remainder d ≡ 0 → remainder (number (inverted s d)) ≡ r
  zero-passed e = changed ∙ ap (bit_xor r) e ∙ xor_zero_r r

-- a change whose remainder is zero leaves a sealed reply carrying its word
pub zero_carries : (m : List ℕ) (w d : ℕ) → Bytes m → seal_outcome m w ≡ done → d < 2 ^ bits m → remainder d ≡ 0 → remainder (number (inverted (reply_after m w) d)) ≡ w
zero_carries m w d hm e h z = zero-passed m (reply_after m w) w d (sealed_reply m w hm e) h z

clean_zero : (m c : List ℕ) (w l d : ℕ) → Bytes m → Bytes c → seal_outcome m w ≡ done → d < 2 ^ bits m
    → sensor_outcome (inverted (reply_after m w) d) c w l ≡ clean_answer → remainder d ≡ 0
unfolding SaysClean Judged
clean_zero m c w l d hm hc e h o =
    passed-zero m (reply_after m w) w d (sealed_reply m w hm e) h
    ((says_clean (inverted (reply_after m w) d) c w l (inverted-bytes (reply_after m w) d, hc, λ n r. refusal_is_no_answer (sym r ∙ o))).0 o)

own_zero : (m : List ℕ) (a d : ℕ) → Bytes m → seal_outcome m a ≡ done → d < 2 ^ bits m
    → reception_outcome a (inverted (interrogation_after m a) d) ≡ answered Own → remainder d ≡ 0
own_zero m a d hm e h o =
    passed-zero m (interrogation_after m a) (overlay a) d (sealed_interrogation m a hm e) h
    (remainder_by_address (number (inverted (interrogation_after m a) d)) ∙ ap overlay (own_read a (inverted (interrogation_after m a) d) o))

-- ---- each kind of change has a remainder

odd_left : (m : List ℕ) (d : ℕ) → ByTwos 1 m d → remainder d ≡ 0 → ⊥
unfolding ByTwos
odd_left m d o e = let z : ones d % 2 ≡ 0 = even_of_zero d e in omega arith

-- a change of the message, among 112 bits
within : (m : List ℕ) (d : ℕ) → (length m ≡ 7) ⊎ (length m ≡ 14) → d < 2 ^ bits m → d < 2 ^ 112
within m d (inl e) h = lt_of_lt_of_le h (pow_mono {i = bits m} {j = 112} (omega arith))
within m d (inr e) h = lt_of_lt_of_le h (pow_mono {i = bits m} {j = 112} (omega arith))

two-left : (m : List ℕ) (d : ℕ) → (length m ≡ 7) ⊎ (length m ≡ 14) → d < 2 ^ bits m → Exactly 2 m d → remainder d ≡ 0 → ⊥
unfolding Exactly
two-left m d o h t e = two_noticed d (within m d o h) t e

few_left : (m : List ℕ) (d : ℕ) → (length m ≡ 7) ⊎ (length m ≡ 14) → d < 2 ^ bits m → UpTo 5 7 m d → remainder d ≡ 0 → ⊥
unfolding UpTo
few_left m d (inl p) h t e =
    seven_noticed d (subst (λ (n : ℕ). d < 2 ^ (8 * n)) p h) t.0 (subst (λ (n : ℕ). ones d ≤ cond (eqb n 14) 5 7) p t.1) e
few_left m d (inr p) h t e =
    five_noticed d (subst (λ (n : ℕ). d < 2 ^ (8 * n)) p h) t.0 (subst (λ (n : ℕ). ones d ≤ cond (eqb n 14) 5 7) p t.1) e

bursts_left : (m : List ℕ) (d : ℕ) → (length m ≡ 7) ⊎ (length m ≡ 14) → d < 2 ^ bits m → TwoBursts 8 12 m d → remainder d ≡ 0 → ⊥
unfolding TwoBursts
bursts_left m d (inl l) h t e =
    lt_irrefl 0
    (subst (λ (x : ℕ). 0 < x)
    (t.7 ∙ two_of_twelve t.1 t.3 t.2 t.4 (subst (λ (n : ℕ). t.1 < 2 ^ cond (eqb n 14) 8 12) l t.5) (subst (λ (n : ℕ). t.3 < 2 ^ cond (eqb n 14) 8 12) l t.6)
    (subst (λ (x : ℕ). x < 2 ^ 56) t.7 (subst (λ (n : ℕ). d < 2 ^ (8 * n)) l h)) (ap remainder (sym t.7) ∙ e))
    t.0)
bursts_left m d (inr l) h t e =
    lt_irrefl 0
    (subst (λ (x : ℕ). 0 < x)
    (t.7 ∙ two_of_eight t.1 t.3 t.2 t.4 (subst (λ (n : ℕ). t.1 < 2 ^ cond (eqb n 14) 8 12) l t.5) (subst (λ (n : ℕ). t.3 < 2 ^ cond (eqb n 14) 8 12) l t.6)
    (subst (λ (x : ℕ). x < 2 ^ 112) t.7 (subst (λ (n : ℕ). d < 2 ^ (8 * n)) l h)) (ap remainder (sym t.7) ∙ e))
    t.0)

lengths : (m : List ℕ) (w : ℕ) → seal_outcome m w ≡ done → (length m ≡ 7) ⊎ (length m ≡ 14)
lengths m w e = message-length (length m) (was_accepted m w e).0

-- ---- the theorems

pub odd_never_clean : OddNeverClean
unfolding OddNeverClean
odd_never_clean m c w l d hm hc e h k o = odd_left m d k (clean_zero m c w l d hm hc e h o)

pub odd_never_own : OddNeverOwn
unfolding OddNeverOwn
odd_never_own m a d hm e h k o = odd_left m d k (own_zero m a d hm e h o)

pub two_never_clean : TwoNeverClean
unfolding TwoNeverClean
two_never_clean m c w l d hm hc e h k o = two-left m d (lengths m w e) h k (clean_zero m c w l d hm hc e h o)

pub two_never_own : TwoNeverOwn
unfolding TwoNeverOwn
two_never_own m a d hm e h k o = two-left m d (lengths m a e) h k (own_zero m a d hm e h o)

pub few_never_clean : FewNeverClean
unfolding FewNeverClean
few_never_clean m c w l d hm hc e h k o = few_left m d (lengths m w e) h k (clean_zero m c w l d hm hc e h o)

pub few_never_own : FewNeverOwn
unfolding FewNeverOwn
few_never_own m a d hm e h k o = few_left m d (lengths m a e) h k (own_zero m a d hm e h o)

pub two_bursts_never_clean : TwoBurstsNeverClean
unfolding TwoBurstsNeverClean
two_bursts_never_clean m c w l d hm hc e h k o = bursts_left m d (lengths m w e) h k (clean_zero m c w l d hm hc e h o)

pub two_bursts_never_own : TwoBurstsNeverOwn
unfolding TwoBurstsNeverOwn
two_bursts_never_own m a d hm e h k o = bursts_left m d (lengths m a e) h k (own_zero m a d hm e h o)

pub pass_exactly : PassExactly
unfolding PassExactly
pass_exactly m w d hm e h = (there, back)
  where
    sealed : SealedAs m (reply_after m w) w
    sealed = sealed_reply m w hm e

    whole : bits m ≡ 24 + (bits m - 24)
    whole = let ge = message-length_ge (length m) (was_accepted m w e).0 in omega arith

    there : remainder (number (inverted (reply_after m w) d)) ≡ w → (q : ℕ) × (q < 2 ^ (bits m - 24)) × (d ≡ product q generator)
    there o =
        let z = passed-zero m (reply_after m w) w d sealed h o in
        (quotient d, quotient-lt (bits m - 24) d (subst (λ (n : ℕ). d < 2 ^ n) whole h), division_equation d ∙ ap (bit_xor (product (quotient d) generator)) z ∙ xor_zero_r (product (quotient d) generator))

    back : (q : ℕ) × (q < 2 ^ (bits m - 24)) × (d ≡ product q generator) → remainder (number (inverted (reply_after m w) d)) ≡ w
    back q = zero_carries m w d hm e h (ap remainder q.2 ∙ (multiple q.0).0)

pub one_in_two_to_24 : OneInTwoTo24
unfolding OneInTwoTo24
one_in_two_to_24 k = (product_lt k, λ q r e. sym (multiple q).1 ∙ ap quotient e ∙ (multiple r).1)
