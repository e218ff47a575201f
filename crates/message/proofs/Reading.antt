-- Single bits of a message, and what depends on its first byte alone.
use mathlib.Core.Path.{◌≡◌, refl, sym, ap, ap₂, ◌∙◌}
use mathlib.Core.Bool.{Bool, true, false}
use mathlib.Core.List.{List}
use Prim.Native.Nat.{ℕ, ◌-◌, ◌/◌, ◌%◌, ◌^◌}
use lib.Dec.{eqb}
use lib.ListN.{length, get_or}
use native.Mathlib.Omega.{arith}
use borrow.Author.Tests.{eqb-true}
use Rattle.message.specs.Message.{number, format_number, first_bit, bit_of, first_bit_agrees}
use Rattle.message.specs.Bits.{bits, bit_at}

pub bit_is : (m : List ℕ) (i : ℕ) → bit_at m i ≡ number m / 2 ^ (bits m - i) % 2
unfolding bit_at
bit_is m i = refl

pub same_format : (m n : List ℕ) → get_or m 0 0 ≡ get_or n 0 0 → format_number m ≡ format_number n
unfolding format_number
same_format m n e = ap (λ (b : ℕ). b / 2 ^ 3) e

pub first_bit_by : (m n : List ℕ) → get_or m 0 0 ≡ get_or n 0 0 → first_bit m ≡ first_bit n
unfolding first_bit
first_bit_by m n e = ap (λ (b : ℕ). b / 2 ^ 7) e

pub same-first_bit : (m n : List ℕ) → get_or m 0 0 ≡ get_or n 0 0 → length m ≡ length n → first_bit_agrees m ≡ first_bit_agrees n
unfolding first_bit_agrees first_bit
same-first_bit m n e l = ap₂ (λ (b k : ℕ). eqb (b / 2 ^ 7) (bit_of (eqb k 14))) e l

-- a first bit 1 that agrees with the length is that of a long message
pub long_by_first_bit : (m : List ℕ) → first_bit_agrees m ≡ true → get_or m 0 0 / 2 ^ 7 ≡ 1 → length m ≡ 14
unfolding first_bit_agrees first_bit
long_by_first_bit m e f = by (eqb (length m) 14) refl (sym f ∙ eqb-true (get_or m 0 0 / 2 ^ 7) (bit_of (eqb (length m) 14)) e)
  where
    by : (t : Bool) → eqb (length m) 14 ≡ t → 1 ≡ bit_of t → length m ≡ 14
    by true g h = eqb-true (length m) 14 g
    by false g h = absurd (omega arith)

-- and a long message with a first bit 1 agrees
pub agrees_long : (m : List ℕ) → length m ≡ 14 → get_or m 0 0 / 2 ^ 7 ≡ 1 → first_bit_agrees m ≡ true
unfolding first_bit_agrees first_bit
agrees_long m l f = ap₂ (λ (b k : ℕ). eqb b (bit_of (eqb k 14))) f l
