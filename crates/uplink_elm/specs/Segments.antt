-- The parts of an interrogation of uplink format 24 (document 02, Point 7; Annex 10 Volume IV: UF 24, RC reply control, NC
-- number of C-segment, MC), the numbers held as 16 bits, and the places of the segments.
use Rattle.std.specs.Prelude.{ℕ, zero, suc, ◌+◌, ◌*◌, ◌-◌, ◌/◌, ◌%◌, ◌^◌, Bool, true, ◌&&◌, List, ◌++◌, eqb, ltb, get_or, take, drop}
use Rattle.std.specs.Int.Bits.{bit_or}

-- ---- the message

-- 'every message whose first two bits are 11, whatever number bits 1 to 5 make'
unfoldable pub is_extended : List ℕ → Bool
is_extended m = eqb (get_or m 0 0 / 2 ^ 6) 3

-- 'bits 3 and 4 are RC'
unfoldable pub reply_control : List ℕ → ℕ
reply_control m = get_or m 0 0 / 2 ^ 4 % 2 ^ 2

-- 'bits 5 to 8 are NC'
unfoldable pub segment_number : List ℕ → ℕ
segment_number m = get_or m 0 0 % 2 ^ 4

-- 'bits 9 to 88 are the ten bytes of a segment'
unfoldable pub segment : List ℕ → List ℕ
segment m = take 10 (drop 1 m)

-- ---- the numbers held

-- '16 bits, the first, the top one, for segment 0'
unfoldable pub bit_of : ℕ → ℕ
bit_of n = 2 ^ (15 - n)

unfoldable pub is_held : ℕ → ℕ → Bool
is_held held n = ltb n 16 && eqb (held / 2 ^ (15 - n) % 2) 1

unfoldable pub with_number : ℕ → ℕ → ℕ
with_number held n = bit_or held (bit_of n)

-- Every number below n passes a test.
unfoldable pub all_below : (ℕ → Bool) → ℕ → Bool
all_below f zero = true
all_below f (suc n) = all_below f n && f n

-- ---- the places, ten bytes for each of 16 numbers

unfoldable pub segment_at : List ℕ → ℕ → List ℕ
segment_at s n = take 10 (drop (n * 10) s)

unfoldable pub stored : ℕ → List ℕ → List ℕ → List ℕ
stored n b s = take (n * 10) s ++ (b ++ drop (n * 10 + 10) s)
