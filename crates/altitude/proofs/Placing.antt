-- The code at bits 20 to 32. The idea: a message of at least four bytes is the number H of its first four, shifted past the
-- rest; its code is the low 13 bits of H, and another code there is another third and fourth byte.
use mathlib.Core.Path.{◌≡◌, sym, ap, ap₂, ◌∙◌, subst}
use mathlib.Core.List.{List, [], ◌∷◌}
use mathlib.Core.Logic.{◌⊎◌, inl, inr}
use Prim.Native.Nat.{ℕ, zero, suc, ◌+◌, ◌*◌, ◌-◌, ◌/◌, ◌%◌, ◌^◌, ◌<◌, ◌≤◌}
use native.Mathlib.Nat.{mod-lt, zero-mul, zero-add, add_comm, add_assoc}
use native.Mathlib.Omega.{arith}
use lib.ListN.{length, get_or, set, drop}
use lib.Pow.{pow_pos, high, low, shr-shr, mod-mod-pow}
use lib.Pow.{field as low_part}
use Rattle.message.specs.Message.{number, Bytes, parity_field}
use Rattle.message.specs.Bits.{bits, number_bytes, bit_at}
use Rattle.message.proofs.Laws.{number-append_byte, number_lt, bytes_of_number, bit_is, parity_field_is}
use Rattle.altitude.specs.Fields.{altitude_code, with_code}

pub code_lt : (m : List ℕ) → altitude_code m < 2 ^ 13
unfolding altitude_code
code_lt m = mod-lt (number m / 2 ^ (bits m - 32)) (pow_pos 13)

-- the number of the first four bytes
abbrev four : ℕ → ℕ → ℕ → ℕ → ℕ
four a b c d = ((a * 256 + b) * 256 + c) * 256 + d

number-four : (a b c d : ℕ) (r : List ℕ) → number (a ∷ b ∷ c ∷ d ∷ r) ≡ four a b c d * 2 ^ (8 * length r) + number r
number-four a b c d r =
    let first : 0 * 256 + a ≡ a = omega arith in
    sym (ap (λ (x : ℕ). x + number (a ∷ b ∷ c ∷ d ∷ r)) (zero-mul (2 ^ (8 * length (a ∷ b ∷ c ∷ d ∷ r)))) ∙ zero-add _)
    ∙ number-append_byte 0 a (b ∷ c ∷ d ∷ r) ∙ number-append_byte (0 * 256 + a) b (c ∷ d ∷ r)
    ∙ number-append_byte ((0 * 256 + a) * 256 + b) c (d ∷ r) ∙ number-append_byte (((0 * 256 + a) * 256 + b) * 256 + c) d r
    ∙ ap (λ (x : ℕ). four x b c d * 2 ^ (8 * length r) + number r) first

rest-bytes : (a b c d : ℕ) (r : List ℕ) → Bytes (a ∷ b ∷ c ∷ d ∷ r) → Bytes r
rest-bytes a b c d r h i = h (suc (suc (suc (suc i))))

module _ (a b c d : ℕ) (r : List ℕ) (h : Bytes (a ∷ b ∷ c ∷ d ∷ r)) where
  m : List ℕ
  m = a ∷ b ∷ c ∷ d ∷ r

  below : bits m - 32 ≡ 8 * length r
  unfolding m
  below = omega arith

  upper : number m / 2 ^ (bits m - 32) ≡ four a b c d
  unfolding m
  upper = ap₂ (λ (n e : ℕ). n / 2 ^ e) (number-four a b c d r) below ∙ high (four a b c d) (8 * length r) (number_lt r (rest-bytes a b c d r h))

  lower : number m % 2 ^ (bits m - 32) ≡ number r
  unfolding m
  lower = ap₂ (λ (n e : ℕ). n % 2 ^ e) (number-four a b c d r) below ∙ low (four a b c d) (8 * length r) (number_lt r (rest-bytes a b c d r h))

  code-four : altitude_code m ≡ c % 32 * 256 + d
  unfolding altitude_code m
  code-four = ap (λ (x : ℕ). x % 2 ^ 13) upper ∙ (let hd : d < 256 = h 3 in omega arith)

  third : ℕ → ℕ
  third k = c / 32 * 32 + k / 256

  written-bytes : (k : ℕ) → k < 2 ^ 13 → Bytes (a ∷ b ∷ third k ∷ k % 256 ∷ r)
  unfolding third
  written-bytes k hk zero = h 0
  written-bytes k hk (suc zero) = h 1
  written-bytes k hk (suc (suc zero)) = let hc : c < 256 = h 2 in omega arith
  written-bytes k hk (suc (suc (suc zero))) = omega arith
  written-bytes k hk (suc (suc (suc (suc i)))) = h (suc (suc (suc (suc i))))

  joined : (k : ℕ) → k < 2 ^ 13 → four a b (third k) (k % 256) ≡ four a b c d / 2 ^ 13 * 2 ^ 13 + k
  unfolding third
  joined k hk = let hd : d < 256 = h 3 in omega arith

  with-four : (k : ℕ) → k < 2 ^ 13 → with_code m k ≡ a ∷ b ∷ third k ∷ k % 256 ∷ r
  unfolding with_code m third
  with-four k hk =
      ap (number_bytes (length m))
      (ap₂ (λ (x l : ℕ). (x * 2 ^ 13 + k) * 2 ^ (bits m - 32) + l)
      (ap (λ (e : ℕ). number m / 2 ^ e) (add_comm 13 (bits m - 32)) ∙ sym (shr-shr (number m) (bits m - 32) 13) ∙ ap (λ (x : ℕ). x / 2 ^ 13) upper) lower
      ∙ ap₂ (λ (x e : ℕ). x * 2 ^ e + number r) (sym (joined k hk)) below
      ∙ sym (number-four a b (third k) (k % 256) r))
      ∙ bytes_of_number (a ∷ b ∷ third k ∷ k % 256 ∷ r) (written-bytes k hk)

-- ---- any message of at least four bytes

abbrev third_with : List ℕ → ℕ → ℕ
third_with m k = get_or m 2 0 / 32 * 32 + k / 256

pub code_is : (m : List ℕ) → Bytes m → 4 ≤ length m → altitude_code m ≡ get_or m 2 0 % 32 * 256 + get_or m 3 0
unfolding m
code_is [] h l = absurd (omega arith)
code_is (a ∷ []) h l = absurd (omega arith)
code_is (a ∷ b ∷ []) h l = absurd (omega arith)
code_is (a ∷ b ∷ c ∷ []) h l = absurd (omega arith)
code_is (a ∷ b ∷ c ∷ d ∷ r) h l = code-four a b c d r h

pub with_is : (m : List ℕ) (k : ℕ) → Bytes m → 4 ≤ length m → k < 2 ^ 13 → with_code m k ≡ set (set m 2 (third_with m k)) 3 (k % 256)
unfolding m third
with_is [] k h l hk = absurd (omega arith)
with_is (a ∷ []) k h l hk = absurd (omega arith)
with_is (a ∷ b ∷ []) k h l hk = absurd (omega arith)
with_is (a ∷ b ∷ c ∷ []) k h l hk = absurd (omega arith)
with_is (a ∷ b ∷ c ∷ d ∷ r) k h l hk = with-four a b c d r h k hk

-- ---- a message with another code

module _ (a b c d : ℕ) (r : List ℕ) (h : Bytes (a ∷ b ∷ c ∷ d ∷ r)) (k : ℕ) (hk : k < 2 ^ 13) where
  code-after : altitude_code (a ∷ b ∷ (c / 32 * 32 + k / 256) ∷ k % 256 ∷ r) ≡ k
  unfolding m third
  code-after = code-four a b (c / 32 * 32 + k / 256) (k % 256) r (written-bytes a b c d r h k hk) ∙ omega arith

  small : number r < 2 ^ (8 * length r)
  small = number_lt r (rest-bytes a b c d r h)

  -- nothing above the code, and nothing below it, has changed
  above : number (a ∷ b ∷ (c / 32 * 32 + k / 256) ∷ k % 256 ∷ r) / 2 ^ (8 * length r) / 2 ^ 13 ≡ number (a ∷ b ∷ c ∷ d ∷ r) / 2 ^ (8 * length r) / 2 ^ 13
  unfolding m third
  above =
      ap (λ (x : ℕ). x / 2 ^ 13)
      (ap (λ (x : ℕ). x / 2 ^ (8 * length r)) (number-four a b (c / 32 * 32 + k / 256) (k % 256) r) ∙ high (four a b (c / 32 * 32 + k / 256) (k % 256)) (8 * length r) small)
      ∙ (let hd : d < 256 = h 3 in omega arith)
      ∙ sym (ap (λ (x : ℕ). x / 2 ^ 13) (ap (λ (x : ℕ). x / 2 ^ (8 * length r)) (number-four a b c d r) ∙ high (four a b c d) (8 * length r) small))

  under : number (a ∷ b ∷ (c / 32 * 32 + k / 256) ∷ k % 256 ∷ r) % 2 ^ (8 * length r) ≡ number (a ∷ b ∷ c ∷ d ∷ r) % 2 ^ (8 * length r)
  under =
      ap (λ (x : ℕ). x % 2 ^ (8 * length r)) (number-four a b (c / 32 * 32 + k / 256) (k % 256) r) ∙ low _ (8 * length r) small
      ∙ sym (ap (λ (x : ℕ). x % 2 ^ (8 * length r)) (number-four a b c d r) ∙ low _ (8 * length r) small)

-- a bit below place s, by the rest of the division by 2^s
bit_below : (x y e s : ℕ) → e < s → x % 2 ^ s ≡ y % 2 ^ s → x / 2 ^ e % 2 ≡ y / 2 ^ e % 2
bit_below x y e s l q = sym (one x) ∙ ap (λ (z : ℕ). z / 2 ^ e % 2) q ∙ one y
  where
    whole : s ≡ (s - suc e + 1) + e
    whole = omega arith

    one : (x : ℕ) → x % 2 ^ s / 2 ^ e % 2 ≡ x / 2 ^ e % 2
    one x =
        ap (λ (t : ℕ). x % 2 ^ t / 2 ^ e % 2) whole ∙ ap (λ (z : ℕ). z % 2) (low_part x (s - suc e + 1) e) ∙ mod-mod-pow (x / 2 ^ e) (s - suc e) 1

-- and one above it, by the quotient
bit_over : (x y s e : ℕ) → x / 2 ^ s ≡ y / 2 ^ s → x / 2 ^ (s + e) % 2 ≡ y / 2 ^ (s + e) % 2
bit_over x y s e q = ap (λ (z : ℕ). z % 2) (sym (shr-shr x s e) ∙ ap (λ (z : ℕ). z / 2 ^ e) q ∙ shr-shr y s e)

pub record With (m : List ℕ) (k : ℕ) : Type 0 where
  pub same_length : length (with_code m k) ≡ length m
  pub bytes : Bytes (with_code m k)
  pub same_first : get_or (with_code m k) 0 0 ≡ get_or m 0 0
  pub code : altitude_code (with_code m k) ≡ k
  pub same-parity : parity_field (with_code m k) ≡ parity_field m
  pub others : (i : ℕ) → (i ≤ 19) ⊎ (33 ≤ i) → bit_at (with_code m k) i ≡ bit_at m i

pub with_code_lem : (m : List ℕ) (k : ℕ) → Bytes m → 7 ≤ length m → k < 2 ^ 13 → With m k
unfolding m third
with_code_lem [] k h l hk = absurd (omega arith)
with_code_lem (a ∷ []) k h l hk = absurd (omega arith)
with_code_lem (a ∷ b ∷ []) k h l hk = absurd (omega arith)
with_code_lem (a ∷ b ∷ c ∷ []) k h l hk = absurd (omega arith)
with_code_lem (a ∷ b ∷ c ∷ d ∷ r) k h l hk =
    record {
      same_length = ap length is;
      bytes = subst Bytes (sym is) (written-bytes a b c d r h k hk);
      same_first = ap (λ (l : List ℕ). get_or l 0 0) is;
      code = ap altitude_code is ∙ code-after a b c d r h k hk;
      same-parity = ap parity_field is ∙ parity_field_is after ∙ ends ∙ sym (parity_field_is before);
      others = λ i o. ap (λ (l : List ℕ). bit_at l i) is ∙ bit_is after i ∙ bit i o ∙ sym (bit_is before i);
    }
  where
    before : List ℕ
    before = a ∷ b ∷ c ∷ d ∷ r

    after : List ℕ
    after = a ∷ b ∷ (c / 32 * 32 + k / 256) ∷ k % 256 ∷ r

    is : with_code before k ≡ after
    is = with-four a b c d r h k hk

    ends : drop (length after - 3) after ≡ drop (length before - 3) before
    ends = let e : length before - 3 ≡ suc (suc (suc (suc (length r - 3)))) = omega arith in ap (λ (n : ℕ). drop n after) e ∙ sym (ap (λ (n : ℕ). drop n before) e)

    bit : (i : ℕ) → (i ≤ 19) ⊎ (33 ≤ i) → number after / 2 ^ (bits after - i) % 2 ≡ number before / 2 ^ (bits before - i) % 2
    bit i (inl p) =
        let e : bits before - i ≡ 8 * length r + (13 + (19 - i)) = omega arith in
        let top : number after / 2 ^ (8 * length r + 13) ≡ number before / 2 ^ (8 * length r + 13) =
        sym (shr-shr (number after) (8 * length r) 13) ∙ above a b c d r h k hk ∙ shr-shr (number before) (8 * length r) 13 in
        ap (λ (x : ℕ). number after / 2 ^ x % 2) (e ∙ sym (add_assoc (8 * length r) 13 (19 - i)))
        ∙ bit_over (number after) (number before) (8 * length r + 13) (19 - i) top
        ∙ sym (ap (λ (x : ℕ). number before / 2 ^ x % 2) (e ∙ sym (add_assoc (8 * length r) 13 (19 - i))))
    bit i (inr p) =
        let e : bits before - i < 8 * length r = omega arith in
        bit_below (number after) (number before) (bits before - i) (8 * length r) e (under a b c d r h k hk)

-- the code that stands there already
pub with_own : (m : List ℕ) → Bytes m → 4 ≤ length m → with_code m (altitude_code m) ≡ m
unfolding m third
with_own [] h l = absurd (omega arith)
with_own (a ∷ []) h l = absurd (omega arith)
with_own (a ∷ b ∷ []) h l = absurd (omega arith)
with_own (a ∷ b ∷ c ∷ []) h l = absurd (omega arith)
with_own (a ∷ b ∷ c ∷ d ∷ r) h l =
    let hc : c < 256 = h 2 in
    let hd : d < 256 = h 3 in
    let x : c / 32 * 32 + (c % 32 * 256 + d) / 256 ≡ c = omega arith in
    let y : (c % 32 * 256 + d) % 256 ≡ d = omega arith in
    ap (with_code (a ∷ b ∷ c ∷ d ∷ r)) (code-four a b c d r h) ∙ with-four a b c d r h (c % 32 * 256 + d) (omega arith)
    ∙ ap₂ (λ (u v : ℕ). a ∷ b ∷ u ∷ v ∷ r) x y
