-- The eleven tables, and the sums that are taken from them. Only private functions cite this file: that the sum is the remainder
-- of a reply is `sum-is-remainder` (proofs/Summing.antt).
use Rattle.std.specs.Prelude.{ℕ, ◌+◌, ◌*◌, ◌-◌, ◌/◌, ◌%◌, ◌^◌, ◌<◌, ◌≡◌, List, [], ◌∷◌, get_or}
use Rattle.std.specs.Int.Bits.{bit_xor}
use Rattle.division.specs.Division.{parity}
use Rattle.remainders.specs.declared.replies.Words.{Words}

-- The entry of a byte with k bytes of the field after it: R of the field that has that byte there, and else zeros.
unfoldable pub entry_at : ℕ → ℕ → ℕ
entry_at k b = parity (b * 2 ^ (8 * k))

-- Eleven tables of 256 entries, the last for the last byte.
unfoldable pub AreTables : List ℕ → Type 0
AreTables t = (i : ℕ) → i < 2816 → get_or t i 0 ≡ entry_at (10 - i / 256) (i % 256)

-- The last of them is there.
unfoldable pub HasLast : List ℕ → Type 0
HasLast t = (k : ℕ) → k < 256 → get_or t (k + 2560) 0 ≡ entry_at 0 k

-- Four bytes from a place on.
abbrev pub four_at : List ℕ → ℕ → List ℕ
four_at s a = get_or s a 0 ∷ get_or s (a + 1) 0 ∷ get_or s (a + 2) 0 ∷ get_or s (a + 3) 0 ∷ []

-- The same as a word, and what tables have for the bytes of a word.
unfoldable pub lowest_first : List ℕ → ℕ → ℕ
lowest_first s a = get_or s a 0 + get_or s (a + 1) 0 * 256 + get_or s (a + 2) 0 * 65536 + get_or s (a + 3) 0 * 16777216

unfoldable pub highest_first : List ℕ → ℕ → ℕ
highest_first s a = get_or s (a + 3) 0 + get_or s (a + 2) 0 * 256 + get_or s (a + 1) 0 * 65536 + get_or s a 0 * 16777216

unfoldable pub entry_in : List ℕ → ℕ → ℕ → ℕ
entry_in t w k = get_or t (w % 256 + k) 0

unfoldable pub entries_in : List ℕ → ℕ → ℕ → ℕ
entries_in t w k =
    bit_xor (bit_xor (entry_in t w k) (entry_in t (w / 256) (k + 256))) (bit_xor (entry_in t (w / 65536) (k + 512)) (entry_in t (w / 16777216) (k + 768)))

-- The words of the reply that starts at a.
abbrev pub words_at : List ℕ → ℕ → Words
words_at s a =
    record { first = lowest_first s a; second = lowest_first s (a + 4); ninth = get_or s (a + 8) 0; tenth = get_or s (a + 9) 0; last = highest_first s (a + 10) }

-- The sum for a reply.
unfoldable pub sum_of : List ℕ → ℕ → ℕ → ℕ → ℕ → ℕ → ℕ
sum_of t first second ninth tenth last =
    bit_xor (bit_xor (bit_xor (entries_in t first 0) (entries_in t second 1024)) (bit_xor (entry_in t ninth 2048) (entry_in t tenth 2304)))
    (bit_xor (entry_in t (last / 16777216) 2560) (last % 16777216))
