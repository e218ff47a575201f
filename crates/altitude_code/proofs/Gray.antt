-- The number of a Gray code of eight bits, as the code computes it, by a computed test over all of them.
use mathlib.Core.Path.{◌≡◌, refl}
use mathlib.Core.Bool.{Bool, ◌&&◌}
use Prim.Native.Nat.{ℕ, ◌/◌, ◌^◌, ◌<◌}
use lib.Dec.{eqb, ltb}
use lib.Bits.{bit_xor}
use borrow.Author.Tests.{eqb-true, ltb-true}
use Rattle.outcome.proofs.Laws.{every, tested, both}
use Rattle.altitude_code.specs.Gray.{gray_number}

-- each bit of the number is the sum of the code's bits from the top down to it
pub by_sums : (v : ℕ) → v < 2 ^ 8
    → let four = bit_xor v (v / 16) in let two = bit_xor four (four / 4) in (bit_xor two (two / 2) ≡ gray_number 8 v) × (bit_xor two (two / 2) < 256)
unfolding every gray_number
by_sums v h =
    let both = both _ _ (tested 8 sums refl v h) in (eqb-true _ _ both.0, ltb-true _ _ both.1)
  where
    sums : ℕ → Bool
    sums v =
        let four = bit_xor v (v / 16) in
        let two = bit_xor four (four / 4) in
        eqb (bit_xor two (two / 2)) (gray_number 8 v) && ltb (bit_xor two (two / 2)) 256
