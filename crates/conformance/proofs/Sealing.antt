-- Demand 2, sealing and reading. The idea: a message is its field and its parity field, and the remainder of the whole is
-- R plus the parity field; so the remainder of a sealed message is the word, or the overlay of the address.
use mathlib.Core.Path.{◌≡◌, sym, ap, ◌∙◌}
use mathlib.Core.List.{List}
use Prim.Native.Nat.{ℕ, ◌+◌, ◌-◌, ◌/◌, ◌%◌, ◌^◌, ◌<◌, ◌≤◌}
use native.Mathlib.Omega.{arith}
use lib.Bits.{bit_xor, xor_shr, xor_mod}
use lib.ListN.{length}
use Rattle.division.specs.Polynomial.{product}
use Rattle.division.specs.Division.{generator, remainder, parity, overlay, address_read}
use Rattle.message.specs.Message.{number, field, parity_field}
use Rattle.division.proofs.Laws.{xor_cancel, remainder-parts, address_law, overlay-lt, remainder_by_address, parity_is, overlay-coefficient}
use Rattle.message.proofs.Laws.{message-length_ge, lt-word}
use Rattle.encoder.specs.Seals.{with_parity, interrogation_seal}
use Rattle.encoder.proofs.Laws.{sealed-field, sealed-parity-number, own_parity, reply_is, interrogation_is, reply-lt, interrogation_after_lem, remainder_sealed, sealed_read, accepted, was_accepted}
use Rattle.conformance.specs.Sealing.{Message, coefficient, parity_bit, remainder_of_field, ReplyBits, InterrogationBits, ReplyCarries, CarriesReply, SealedIsRead, ReadIsSealed, SealedCallIsRead, ReadIsSealedCall}

-- ---- the parity field, bit by bit

coefficient-xor : (k a b : ℕ) → coefficient k (bit_xor a b) ≡ bit_xor (coefficient k a) (coefficient k b)
unfolding coefficient
coefficient-xor k a b = ap (λ (n : ℕ). n % 2) (xor_shr a b k) ∙ xor_mod (a / 2 ^ k) (b / 2 ^ k) 1

-- a bit of the parity field that a sum is written to
sum_bit : (m : List ℕ) (s i : ℕ) → Message m → s < 2 ^ 24
    → parity_bit i (with_parity m (bit_xor (parity (number (field m))) s)) ≡ bit_xor (coefficient (24 - i) (remainder_of_field m)) (coefficient (24 - i) s)
unfolding parity_bit remainder_of_field Message
sum_bit m s i hm hs =
    ap (coefficient (24 - i)) (sealed-parity-number m (bit_xor (parity (number (field m))) s) (message-length_ge (length m) hm.1) (reply-lt m s hs))
    ∙ coefficient-xor (24 - i) (parity (number (field m))) s
    ∙ ap (λ (r : ℕ). bit_xor (coefficient (24 - i) r) (coefficient (24 - i) s)) (parity_is (number (field m)))

pub reply-bits : ReplyBits
unfolding ReplyBits Message
reply-bits m w i hm hw lo hi = (
  ap (parity_bit i) (reply_is m w) ∙ sum_bit m w i hm hw,
  ap field (reply_is m w) ∙ sealed-field m (bit_xor (parity (number (field m))) w) (message-length_ge (length m) hm.1),
)

overlay_bit : (a i : ℕ) → 1 ≤ i → i ≤ 24 → coefficient (24 - i) (overlay a) ≡ coefficient (48 - i) (product a generator)
unfolding coefficient
overlay_bit a i lo hi =
    let place : 24 + (24 - i) ≡ 48 - i = omega arith in
    overlay-coefficient a (24 - i) (omega arith) ∙ ap (λ (k : ℕ). product a generator / 2 ^ k % 2) place

pub interrogation_bits : InterrogationBits
unfolding InterrogationBits Message
interrogation_bits m a i hm ha lo hi = (
  ap (parity_bit i) (interrogation_is m a) ∙ sum_bit m (overlay a) i hm (overlay-lt a)
      ∙ ap (bit_xor (coefficient (24 - i) (remainder_of_field m))) (overlay_bit a i lo hi),
  ap field (interrogation_is m a) ∙ sealed-field m (bit_xor (parity (number (field m))) (overlay a)) (message-length_ge (length m) hm.1),
)

-- ---- carrying and reading

-- a message whose remainder is s is its own field sealed with s
sealed_by_remainder : (m : List ℕ) (s : ℕ) → Message m → remainder (number m) ≡ s → m ≡ with_parity m (bit_xor (parity (number (field m))) s)
unfolding Message
sealed_by_remainder m s hm e =
    own_parity m ge hm.0
    ∙ ap (with_parity m)
    (sym (xor_cancel (parity (number (field m))) (number (parity_field m)))
    ∙ ap (bit_xor (parity (number (field m)))) (remainder-parts m ge hm.0 ∙ e))
  where
    ge : 3 ≤ length m
    ge = message-length_ge (length m) hm.1

pub reply_carries : ReplyCarries
unfolding ReplyCarries Message
reply_carries m w v hm hw =
    let r = ap (λ (l : List ℕ). remainder (number l)) (reply_is m w) ∙ remainder_sealed m w (message-length_ge (length m) hm.1) hw in
    (λ e. sym e ∙ r, λ e. r ∙ sym e)

pub carries_reply : CarriesReply
unfolding CarriesReply
carries_reply m w hm e = sealed_by_remainder m w hm e ∙ sym (reply_is m w)

pub sealed_is_read : SealedIsRead
unfolding SealedIsRead Message
sealed_is_read m a hm ha =
    let read = sealed_read m a (message-length_ge (length m) hm.1) ha in
    (read, (address_law (number (interrogation_seal m a)) a ha).0 read)

pub read_is_sealed : ReadIsSealed
unfolding ReadIsSealed
read_is_sealed m a hm ha e =
    sealed_by_remainder m (overlay a) hm (remainder_by_address (number m) ∙ ap overlay ((address_law (number m) a ha).1 e))
    ∙ sym (interrogation_is m a)

pub sealed_call_is_read : SealedCallIsRead
unfolding SealedCallIsRead
sealed_call_is_read m a hb e =
    let ok = was_accepted m a e in
    ap (λ (l : List ℕ). address_read (number l)) (interrogation_after_lem m a e) ∙ sealed_read m a (message-length_ge (length m) ok.0) ok.1

pub read_is_sealed_call : ReadIsSealedCall
unfolding ReadIsSealedCall ReadIsSealed Message
read_is_sealed_call m a hm ha f e =
    interrogation_after_lem m a (sym (accepted m a hm.1 (lt-word a ha) f)) ∙ sym (read_is_sealed m a hm ha e)
