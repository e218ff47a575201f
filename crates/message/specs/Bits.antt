-- The bits of a message: the windows of 24 consecutive bits (document 01, 'Sensor'), and a message with some bits inverted.
--
-- The bits that a change or a burst inverts are spoken of as one number d, the polynomial of those bits. The same message
-- bits reached through two windows are then the same d.
use Rattle.std.specs.Prelude.{ℕ, zero, suc, ◌-◌, ◌*◌, ◌/◌, ◌%◌, ◌^◌, ◌<◌, ◌≤◌, ◌≡◌, List, [], ◌∷◌, length}
use Rattle.std.specs.Int.Bits.{bit_xor}
use Rattle.message.specs.Message.{number}

-- The number of bits of a message, and the number of the last window: 32 or 88.
abbrev pub bits : List ℕ → ℕ
bits m = 8 * length m

abbrev pub last_window : List ℕ → ℕ
last_window m = bits m - 24

-- Window w covers bits w + 1 to w + 24, so the coefficients from x^(n−24−w) on, where n is the number of bits.
abbrev pub place : List ℕ → ℕ → ℕ
place m w = last_window m - w

-- d is a nonzero pattern p placed in window w of m.
abbrev pub InWindow : List ℕ → ℕ → ℕ → Type 0
InWindow m w d = (w ≤ last_window m) × (p : ℕ) × (0 < p) × (p < 2 ^ 24) × (d ≡ p * 2 ^ place m w)

-- The last k bytes of a number.
unfoldable pub number_bytes : ℕ → ℕ → List ℕ
number_bytes zero n = []
number_bytes (suc k) n = n / 2 ^ (8 * k) % 2 ^ 8 ∷ number_bytes k n

-- The message with the bits d inverted.
unfoldable pub inverted : List ℕ → ℕ → List ℕ
inverted m d = number_bytes (length m) (bit_xor (number m) d)

-- Bit i of a message, from 1 for the first: 'Bit i stands for x^(n−i).'
unfoldable pub bit_at : List ℕ → ℕ → ℕ
bit_at m i = number m / 2 ^ (bits m - i) % 2
