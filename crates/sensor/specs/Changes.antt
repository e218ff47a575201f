-- Fits and low marks as document 01 defines them ('Sensor'), for a message of 56 or 112 bits. A change is the number of the
-- message bits that it inverts (message/specs/Bits.antt).
use Rattle.std.specs.Prelude.{ℕ, ◌/◌, ◌%◌, ◌^◌, ◌≡◌, true, List}
use Rattle.std.specs.Int.Bits.{bit_and, bit_xor}
use Rattle.std.specs.Int.Count.{ones}
use Rattle.division.specs.Division.{Carries}
use Rattle.message.specs.Message.{number, first_bit_agrees}
use Rattle.message.specs.Bits.{place, InWindow, inverted}

-- d has ones only on low-confidence bits: a confidence bit 1 is a low mark.
unfoldable pub OnLow : List ℕ → ℕ → Type 0
OnLow c d = bit_and d (number c) ≡ d

-- A fit in window w: a change inside the window, on low-confidence bits only, that makes the message carry the word and leaves
-- it a first bit that agrees with its length (document 02, Point 11).
unfoldable pub Fit : List ℕ → List ℕ → ℕ → ℕ → ℕ → Type 0
Fit m c word w d = InWindow m w d × OnLow c d × Carries (bit_xor (number m) d) word × (first_bit_agrees (inverted m d) ≡ true)

-- The low marks of the window at a place, as a 24-bit number, and how many there are.
unfoldable pub marks_at : List ℕ → ℕ → ℕ
marks_at c e = number c / 2 ^ e % 2 ^ 24

unfoldable pub low_marks : List ℕ → ℕ → ℕ
low_marks c w = ones (marks_at c (place c w))
