-- A message with bits inverted. The idea: a list of bytes is determined by its number, and the number of the result is the
-- exclusive or of two numbers, whichever bytes were stored.
use mathlib.Core.Path.{◌≡◌, refl, sym, ap, ap₂, ◌∙◌, subst}
use mathlib.Core.List.{List, ◌++◌}
use Prim.Native.Nat.{ℕ, zero, suc, ◌+◌, ◌*◌, ◌/◌, ◌%◌, ◌^◌, ◌<◌, ◌≤◌}
use native.Mathlib.Nat.{mod-lt, mod-eq_of_lt, mod-one, zero-mul, zero-add, mul-suc, add_comm, lt_of_lt_of_le}
use native.Mathlib.Omega.{arith}
use lib.Dec.{lit<}
use lib.ListN.{length, take, drop, length-append, length-drop, take-append-drop}
use lib.Pow.{pow_pos, pow_mono, mod-pow-add, shl_lt}
use lib.Bits.{bit_xor, xor_lt, xor_block, xor_zero_r}
use Rattle.message.specs.Message.{number, Bytes}
use Rattle.message.specs.Bits.{place, InWindow, number_bytes, inverted}
use Rattle.message.proofs.Bytes.{number-nil, number-cons, number_append, number-split, number_lt, number_injective, bytes_drop, bytes_take, bytes-append}

-- ---- the bytes of a number

pub number_bytes-length : (k n : ℕ) → length (number_bytes k n) ≡ k
unfolding number_bytes
number_bytes-length zero n = refl
number_bytes-length (suc k) n = ap suc (number_bytes-length k n)

pub number_bytes-bytes : (k n : ℕ) → Bytes (number_bytes k n)
unfolding number_bytes
number_bytes-bytes zero n i = lit< tt
number_bytes-bytes (suc k) n zero = mod-lt (n / 2 ^ (8 * k)) (pow_pos 8)
number_bytes-bytes (suc k) n (suc i) = number_bytes-bytes k n i

byte_and-rest : (n k : ℕ) → n % 2 ^ (8 * suc k) ≡ n / 2 ^ (8 * k) % 2 ^ 8 * 2 ^ (8 * k) + n % 2 ^ (8 * k)
byte_and-rest n k = ap (λ (e : ℕ). n % 2 ^ e) (mul-suc 8 k ∙ add_comm (8 * k) 8) ∙ mod-pow-add n 8 (8 * k)

pub number_bytes-number : (k n : ℕ) → number (number_bytes k n) ≡ n % 2 ^ (8 * k)
unfolding number_bytes
number_bytes-number zero n = number-nil ∙ sym (mod-one n)
number_bytes-number (suc k) n =
    number-cons (n / 2 ^ (8 * k) % 2 ^ 8) (number_bytes k n)
    ∙ ap₂ (λ (l r : ℕ). n / 2 ^ (8 * k) % 2 ^ 8 * 2 ^ (8 * l) + r) (number_bytes-length k n) (number_bytes-number k n)
    ∙ sym (byte_and-rest n k)

-- the bytes of a list's number are the list
pub bytes_of_number : (l : List ℕ) → Bytes l → number_bytes (length l) (number l) ≡ l
bytes_of_number l h =
    number_injective (number_bytes (length l) (number l)) l (number_bytes-bytes (length l) (number l)) h (number_bytes-length (length l) (number l))
    (number_bytes-number (length l) (number l) ∙ mod-eq_of_lt (number_lt l h))

-- ---- a message with bits inverted

pub inverted-length : (m : List ℕ) (d : ℕ) → length (inverted m d) ≡ length m
unfolding inverted
inverted-length m d = number_bytes-length (length m) (bit_xor (number m) d)

pub inverted-bytes : (m : List ℕ) (d : ℕ) → Bytes (inverted m d)
unfolding inverted
inverted-bytes m d = number_bytes-bytes (length m) (bit_xor (number m) d)

pub inverted-number : (m : List ℕ) (d : ℕ) → Bytes m → d < 2 ^ (8 * length m) → number (inverted m d) ≡ bit_xor (number m) d
unfolding inverted
inverted-number m d hb h =
    number_bytes-number (length m) (bit_xor (number m) d)
    ∙ mod-eq_of_lt (xor_lt (8 * length m) (number m) d (number_lt m hb) h)

-- a list is the message with d inverted if its number says so
pub inverted_by_number : (l m : List ℕ) (d : ℕ) → Bytes l → Bytes m → length l ≡ length m → d < 2 ^ (8 * length m)
    → number l ≡ bit_xor (number m) d → l ≡ inverted m d
inverted_by_number l m d hl hm e h n =
    number_injective l (inverted m d) hl (inverted-bytes m d) (e ∙ sym (inverted-length m d)) (n ∙ sym (inverted-number m d hm h))

-- bits inverted in the end of a message
pub inverted_part : (a : ℕ) (m : List ℕ) (d : ℕ) → Bytes m → a ≤ length m → d < 2 ^ (8 * length (drop a m)) → take a m ++ inverted (drop a m) d ≡ inverted m d
inverted_part a m d hm ha h =
    inverted_by_number (take a m ++ inverted (drop a m) d) m d
    (bytes-append (take a m) (inverted (drop a m) d) (bytes_take a m hm) (inverted-bytes (drop a m) d)) hm same
    (lt_of_lt_of_le h (pow_mono {i = 8 * length (drop a m)} {j = 8 * length m} shorter))
    (number_append (take a m) (inverted (drop a m) d)
    ∙ ap₂ (λ (l n : ℕ). number (take a m) * 2 ^ (8 * l) + n) (inverted-length (drop a m) d) (inverted-number (drop a m) d (bytes_drop a m hm) h)
    ∙ ap (λ (n : ℕ). n * 2 ^ (8 * length (drop a m)) + bit_xor (number (drop a m)) d) (sym (xor_zero_r (number (take a m))))
    ∙ sym (xor_block (8 * length (drop a m)) (number (take a m)) 0 (number (drop a m)) d (number_lt (drop a m) (bytes_drop a m hm)) h)
    ∙ ap₂ bit_xor (sym (number-split a m)) (ap (λ (n : ℕ). n + d) (zero-mul (2 ^ (8 * length (drop a m)))) ∙ zero-add d))
  where
    shorter : 8 * length (drop a m) ≤ 8 * length m
    shorter = omega (arith, length-drop a m)

    same : length (take a m ++ inverted (drop a m) d) ≡ length m
    same =
        length-append (take a m) (inverted (drop a m) d) ∙ ap (λ (n : ℕ). length (take a m) + n) (inverted-length (drop a m) d)
        ∙ sym (length-append (take a m) (drop a m)) ∙ ap length (take-append-drop a m)

-- ---- a pattern placed in a window

-- is a number of the message's bits
pub in_window_lt : (m : List ℕ) (w d : ℕ) → 3 ≤ length m → InWindow m w d → d < 2 ^ (8 * length m)
in_window_lt m w d ge f =
    subst (λ (x : ℕ). x < 2 ^ (8 * length m)) (sym f.4)
    (lt_of_lt_of_le (shl_lt 24 (place m w) f.3) (pow_mono {i = 24 + place m w} {j = 8 * length m} (omega arith)))
