-- A sealed message: its length, its field, its parity field, its number, its remainder and the address read from it.
use mathlib.Core.Path.{◌≡◌, refl, sym, ap, ap₂, ◌∙◌, subst}
use mathlib.Core.List.{List, [], ◌∷◌, ◌++◌}
use Prim.Native.Nat.{ℕ, zero, suc, ◌+◌, ◌-◌, ◌*◌, ◌/◌, ◌%◌, ◌^◌, ◌<◌, ◌≤◌}
use native.Mathlib.Omega.{arith}
use lib.Dec.{lit<}
use lib.Bits.{bit_xor, xor_lt}
use lib.ListN.{length, get_or, length-append, take-append-drop, get_or-append}
use lib.Seq.{take_at, drop_at}
use Rattle.division.specs.Division.{remainder, parity, overlay, address_read}
use Rattle.message.specs.Message.{number, Bytes, field, parity_field}
use Rattle.outcome.specs.Outcomes.{done}
use Rattle.outcome.proofs.Laws.{left_of}
use Rattle.division.proofs.Laws.{xor_cancel, message-remainder, parity-lt, address_read-remainder, overlay-lt, read-overlay}
use Rattle.message.proofs.Laws.{number_three, number_append, number-message, number_injective, field_is, parity_field_is, field-length, parity_field-lt, bytes_take, bytes-append}
use Rattle.encoder.specs.Seals.{word_bytes, with_parity, reply_parity, interrogation_parity, reply_seal, interrogation_seal, seal_outcome, reply_after, interrogation_after}

-- ---- the bytes of a word

word_number : (p : ℕ) → p < 2 ^ 24 → number (word_bytes p) ≡ p
unfolding word_bytes
word_number p h =
    let whole : p / 2 ^ 16 * 65536 + p / 2 ^ 8 % 2 ^ 8 * 256 + p % 2 ^ 8 ≡ p = omega arith in
    sym (number_three (p / 2 ^ 16 ∷ p / 2 ^ 8 % 2 ^ 8 ∷ p % 2 ^ 8 ∷ []) refl) ∙ whole

word-length : (p : ℕ) → length (word_bytes p) ≡ 3
unfolding word_bytes
word-length p = refl

word-bytes : (p : ℕ) → p < 2 ^ 24 → Bytes (word_bytes p)
unfolding word_bytes
word-bytes p h zero = omega arith
word-bytes p h (suc zero) = omega arith
word-bytes p h (suc (suc zero)) = omega arith
word-bytes p h (suc (suc (suc i))) = lit< tt

-- ---- a message with another parity field

module _ (m : List ℕ) (p : ℕ) (h : 3 ≤ length m) where
  pub sealed-length : length (with_parity m p) ≡ length m
  unfolding with_parity
  sealed-length =
      length-append (field m) (word_bytes p) ∙ ap₂ (λ (a b : ℕ). a + b) (field-length m h) (word-length p) ∙ omega arith

  at_field : length (field m) ≡ length (with_parity m p) - 3
  at_field = field-length m h ∙ ap (λ (n : ℕ). n - 3) (sym sealed-length)

  pub sealed-field : field (with_parity m p) ≡ field m
  unfolding with_parity
  sealed-field = field_is (with_parity m p) ∙ take_at (field m) (word_bytes p) (length (with_parity m p) - 3) at_field

  pub sealed-parity : parity_field (with_parity m p) ≡ word_bytes p
  unfolding with_parity
  sealed-parity = parity_field_is (with_parity m p) ∙ drop_at (field m) (word_bytes p) (length (with_parity m p) - 3) at_field

  pub sealed-parity-number : p < 2 ^ 24 → number (parity_field (with_parity m p)) ≡ p
  sealed-parity-number hp = ap number sealed-parity ∙ word_number p hp

  pub sealed-number : p < 2 ^ 24 → number (with_parity m p) ≡ number (field m) * 2 ^ 24 + p
  unfolding with_parity
  sealed-number hp =
      number_append (field m) (word_bytes p)
      ∙ ap₂ (λ (k n : ℕ). number (field m) * 2 ^ (8 * k) + n) (word-length p) (word_number p hp)

  pub sealed-bytes : Bytes m → p < 2 ^ 24 → Bytes (with_parity m p)
  unfolding with_parity
  sealed-bytes hm hp =
      bytes-append (field m) (word_bytes p) (subst Bytes (sym (field_is m)) (bytes_take (length m - 3) m hm)) (word-bytes p hp)

-- the first byte stays, as the field has it
pub sealed_first : (m : List ℕ) (p : ℕ) → 4 ≤ length m → get_or (with_parity m p) 0 0 ≡ get_or m 0 0
sealed_first m p h =
    sym (of_field (with_parity m p) (subst (λ (n : ℕ). 4 ≤ n) (sym (sealed-length m p three)) h))
    ∙ ap (λ (l : List ℕ). get_or l 0 0) (sealed-field m p three) ∙ of_field m h
  where
    three : 3 ≤ length m
    three = omega arith

    of_field : (l : List ℕ) → 4 ≤ length l → get_or (field l) 0 0 ≡ get_or l 0 0
    of_field l g =
        sym (get_or-append (field l) (parity_field l) 0 0 (omega (arith, field-length l (omega arith))))
        ∙ ap (λ (k : List ℕ). get_or k 0 0) (ap₂ ◌++◌ (field_is l) (parity_field_is l) ∙ take-append-drop (length l - 3) l)

-- a message is its own field with its own parity field
pub own_parity : (m : List ℕ) → 3 ≤ length m → Bytes m → m ≡ with_parity m (number (parity_field m))
own_parity m h hm =
    number_injective m (with_parity m (number (parity_field m))) hm (sealed-bytes m (number (parity_field m)) h hm (parity_field-lt m h hm))
    (sym (sealed-length m (number (parity_field m)) h))
    (number-message m h ∙ sym (sealed-number m (number (parity_field m)) h (parity_field-lt m h hm)))

-- ---- the two seals

pub reply_is : (m : List ℕ) (w : ℕ) → reply_seal m w ≡ with_parity m (bit_xor (parity (number (field m))) w)
unfolding reply_seal reply_parity
reply_is m w = refl

pub interrogation_is : (m : List ℕ) (a : ℕ) → interrogation_seal m a ≡ with_parity m (bit_xor (parity (number (field m))) (overlay a))
unfolding interrogation_seal interrogation_parity
interrogation_is m a = refl

pub reply-lt : (m : List ℕ) (w : ℕ) → w < 2 ^ 24 → bit_xor (parity (number (field m))) w < 2 ^ 24
reply-lt m w h = xor_lt 24 (parity (number (field m))) w (parity-lt (number (field m))) h

pub reply-after : (m : List ℕ) (w : ℕ) → seal_outcome m w ≡ done → reply_after m w ≡ reply_seal m w
unfolding reply_after
reply-after m w e = left_of _ _ m (reply_seal m w) e

pub interrogation_after_lem : (m : List ℕ) (a : ℕ) → seal_outcome m a ≡ done → interrogation_after m a ≡ interrogation_seal m a
unfolding interrogation_after
interrogation_after_lem m a e = left_of _ _ m (interrogation_seal m a) e

-- an interrogation's seal goes by its field
pub seal_by_field : (m k : List ℕ) (a : ℕ) → field m ≡ field k → interrogation_seal m a ≡ interrogation_seal k a
unfolding interrogation_seal with_parity
seal_by_field m k a e = ap (λ (f : List ℕ). f ++ word_bytes (interrogation_parity f a)) e

-- ---- what is read from a seal

pub remainder_sealed : (m : List ℕ) (s : ℕ) → 3 ≤ length m → s < 2 ^ 24 → remainder (number (with_parity m (bit_xor (parity (number (field m))) s))) ≡ s
remainder_sealed m s h hs =
    ap remainder (sealed-number m (bit_xor (parity (number (field m))) s) h (reply-lt m s hs))
    ∙ message-remainder (number (field m)) (bit_xor (parity (number (field m))) s) (reply-lt m s hs)
    ∙ xor_cancel (parity (number (field m))) s

pub sealed_read : (m : List ℕ) (a : ℕ) → 3 ≤ length m → a < 2 ^ 24 → address_read (number (interrogation_seal m a)) ≡ a
sealed_read m a h ha =
    ap (λ (l : List ℕ). address_read (number l)) (interrogation_is m a)
    ∙ address_read-remainder (number (with_parity m (bit_xor (parity (number (field m))) (overlay a))))
    ∙ ap address_read (remainder_sealed m (overlay a) h (overlay-lt a)) ∙ read-overlay a ha
