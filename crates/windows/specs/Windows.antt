-- The 24 bits of a window within the part of a buffer that starts at the byte of the window's first bit (document 01,
-- 'Sensor': 'The test of a window is handed the part of the confidence buffer that starts at the byte of its first bit').
--
-- The definitions take any part. Where a part holds the window they mean what they should: the laws of proofs/Meaning.antt.
use Rattle.std.specs.Prelude.{ℕ, ◌+◌, ◌-◌, ◌*◌, ◌/◌, ◌%◌, ◌^◌, ◌<◌, ◌≤◌, List, length, get_or, set}
use Rattle.std.specs.Int.Bits.{bit_xor}

-- The part holds the 24 bits from `offset` on, an offset within its first byte.
abbrev pub Starts : List ℕ → ℕ → Type 0
Starts part offset = (offset < 8) × (24 + offset ≤ 8 * length part)

-- The first four bytes as one number, with 0 for a byte that is not there.
abbrev pub four_bytes : List ℕ → ℕ
four_bytes p = get_or p 0 0 * 16777216 + get_or p 1 0 * 65536 + get_or p 2 0 * 256 + get_or p 3 0

-- The 24 bits from `offset` on, as a number.
unfoldable pub window_bits : List ℕ → ℕ → ℕ
window_bits p offset = four_bytes p / 2 ^ (8 - offset) % 2 ^ 24

-- A number stored in the first four bytes; a byte that is not there takes nothing.
abbrev pub stored : List ℕ → ℕ → List ℕ
stored p n = set (set (set (set p 0 (n / 16777216)) 1 (n / 65536 % 256)) 2 (n / 256 % 256)) 3 (n % 256)

-- The part with a pattern added to those 24 bits.
unfoldable pub pattern_added : List ℕ → ℕ → ℕ → List ℕ
pattern_added p offset x = stored p (bit_xor (four_bytes p) (x * 2 ^ (8 - offset) % 2 ^ 32))
