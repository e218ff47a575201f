-- The first bit of a message is the top bit of its number; so a message with bits inverted has another first bit exactly where
-- the top bit of the change is 1.
use mathlib.Core.Path.{◌≡◌, refl, sym, ap, ap₂, ◌∙◌, subst}
use mathlib.Core.Bool.{Bool, true, false, not}
use mathlib.Core.List.{List, [], ◌∷◌}
use Prim.Native.Nat.{ℕ, zero, suc, ◌+◌, ◌-◌, ◌*◌, ◌/◌, ◌^◌, ◌<◌, ◌≤◌}
use native.Mathlib.Omega.{arith}
use lib.Bits.{bit_xor, xor_shr, xor_zero_r}
use lib.Dec.{eqb}
use lib.ListN.{length}
use lib.Pow.{high, shr-shr, shr_lt}
use Rattle.message.specs.Message.{number, Bytes, first_bit, bit_of, first_bit_agrees}
use Rattle.message.specs.Bits.{inverted}
use Rattle.message.proofs.Bytes.{number-cons, number_lt, bytes_drop}
use Rattle.message.proofs.Inverting.{inverted-length, inverted-bytes, inverted-number}

top_number : (m : List ℕ) → Bytes m → 1 ≤ length m → first_bit m ≡ number m / 2 ^ (8 * length m - 1)
unfolding first_bit
top_number [] h l = absurd (omega arith)
top_number (b ∷ bs) h l =
    let k : ℕ = 8 * length bs in
    let rest : number bs < 2 ^ k = number_lt bs (bytes_drop 1 (b ∷ bs) h) in
    let size : k + 7 ≡ 8 * suc (length bs) - 1 = omega arith in
    ap (λ (n : ℕ). n / 2 ^ 7) (sym (ap (λ (n : ℕ). n / 2 ^ k) (number-cons b bs) ∙ high b k rest))
    ∙ shr-shr (number (b ∷ bs)) k 7
    ∙ ap (λ (n : ℕ). number (b ∷ bs) / 2 ^ n) size

module _ (m : List ℕ) (d : ℕ) (h : Bytes m) (l : 1 ≤ length m) (small : d < 2 ^ (8 * length m)) where
  after : first_bit (inverted m d) ≡ bit_xor (first_bit m) (d / 2 ^ (8 * length m - 1))
  after =
      let size : length (inverted m d) ≡ length m = inverted-length m d in
      top_number (inverted m d) (inverted-bytes m d) (omega (arith, size))
      ∙ ap₂ (λ (n k : ℕ). n / 2 ^ (8 * k - 1)) (inverted-number m d h small) size
      ∙ xor_shr (number m) d (8 * length m - 1)
      ∙ ap (λ (n : ℕ). bit_xor n (d / 2 ^ (8 * length m - 1))) (sym (top_number m h l))

  agrees : first_bit_agrees (inverted m d) ≡ eqb (bit_xor (first_bit m) (d / 2 ^ (8 * length m - 1))) (bit_of (eqb (length m) 14))
  unfolding first_bit_agrees
  agrees = ap₂ (λ (n k : ℕ). eqb n (bit_of (eqb k 14))) after (inverted-length m d)

  pub first-bit-kept : d / 2 ^ (8 * length m - 1) ≡ 0 → first_bit_agrees (inverted m d) ≡ first_bit_agrees m
  unfolding first_bit_agrees
  first-bit-kept e =
      agrees ∙ ap (λ (n : ℕ). eqb n (bit_of (eqb (length m) 14))) (ap (bit_xor (first_bit m)) e ∙ xor_zero_r (first_bit m))

  one_bit : first_bit m < 2
  one_bit = subst (λ (n : ℕ). n < 2) (sym (top_number m h l)) (shr_lt 1 (8 * length m - 1) (subst (λ (n : ℕ). number m < 2 ^ n) (omega (arith, l)) (number_lt m h)))

  pub first-bit-inverted : d / 2 ^ (8 * length m - 1) ≡ 1 → first_bit_agrees (inverted m d) ≡ not (first_bit_agrees m)
  unfolding first_bit_agrees
  first-bit-inverted e =
      agrees ∙ ap (λ (n : ℕ). eqb (bit_xor (first_bit m) n) (bit_of (eqb (length m) 14))) e ∙ other (first_bit m) one_bit (eqb (length m) 14)
    where
      other : (x : ℕ) → x < 2 → (t : Bool) → eqb (bit_xor x 1) (bit_of t) ≡ not (eqb x (bit_of t))
      other zero lt true = refl
      other zero lt false = refl
      other (suc zero) lt true = refl
      other (suc zero) lt false = refl
      other (suc (suc x)) lt t = absurd (omega arith)
