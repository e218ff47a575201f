-- A pattern in a window inverts the first bit of a message where the window is the first and the pattern has its top bit, and
-- nowhere else.
use mathlib.Core.Path.{◌≡◌, sym, ap, ◌∙◌}
use mathlib.Core.Bool.{not}
use mathlib.Core.List.{List}
use Prim.Native.Nat.{ℕ, ◌+◌, ◌-◌, ◌*◌, ◌/◌, ◌^◌, ◌<◌, ◌≤◌}
use native.Mathlib.Nat.{div-eq_of_lt}
use native.Mathlib.Omega.{arith}
use lib.ListN.{length}
use lib.Pow.{shl_lt, shl-shr, shr-shr, pow_mono}
use Rattle.message.specs.Message.{Bytes, first_bit_agrees}
use Rattle.message.specs.Bits.{last_window, inverted}
use Rattle.message.proofs.Laws.{first-bit-kept, first-bit-inverted}

module _ (m : List ℕ) (e p : ℕ) (h : Bytes m) (ge : 3 ≤ length m) (within : e ≤ last_window m) (small : p < 2 ^ 24) where
  below : p * 2 ^ e < 2 ^ (24 + e)
  below = shl_lt 24 e small

  fits : p * 2 ^ e < 2 ^ (8 * length m)
  fits = omega (arith, below, pow_mono {i = 24 + e} {j = 8 * length m} (omega arith))

  -- in the first window the pattern's top bit is the change's
  first : e ≡ last_window m → p * 2 ^ e / 2 ^ (8 * length m - 1) ≡ p / 2 ^ 23
  first q =
      ap (λ (n : ℕ). p * 2 ^ e / 2 ^ n) (omega (arith, q, ge))
      ∙ sym (shr-shr (p * 2 ^ e) e 23)
      ∙ ap (λ (n : ℕ). n / 2 ^ 23) (shl-shr p e)

  -- in a later one the change is below the first bit
  later : e < last_window m → p * 2 ^ e / 2 ^ (8 * length m - 1) ≡ 0
  later l = div-eq_of_lt (omega (arith, below, pow_mono {i = 24 + e} {j = 8 * length m - 1} (omega arith)))

  pub first_touched : e ≡ last_window m → 0x800000 ≤ p → not (first_bit_agrees m) ≡ first_bit_agrees (inverted m (p * 2 ^ e))
  first_touched q l =
      sym (first-bit-inverted m (p * 2 ^ e) h (omega arith) fits (first q ∙ omega (arith, small, l)))

  pub first_untouched : e ≡ last_window m → p < 0x800000 → first_bit_agrees m ≡ first_bit_agrees (inverted m (p * 2 ^ e))
  first_untouched q l = sym (first-bit-kept m (p * 2 ^ e) h (omega arith) fits (first q ∙ omega (arith, l)))

  pub later_untouched : e < last_window m → first_bit_agrees m ≡ first_bit_agrees (inverted m (p * 2 ^ e))
  later_untouched l = sym (first-bit-kept m (p * 2 ^ e) h (omega arith) fits (later l))

pub ruleset first_bits = (first_touched, first_untouched, later_untouched)
