-- How a round goes from one number to the next, and what is written of a transmission before its seal.
use Rattle.std.specs.Prelude.{ℕ, ◌+◌, ◌*◌, ◌-◌, Bool, List, ◌∷◌, ◌++◌, drop, Option, slice_get}
use Rattle.std.specs.Option.{option_or}
use Rattle.uplink_elm_sending.specs.Sending.{failing}

-- The lowest number from `from` on, below count, that fails a test; none where none does.
unfoldable pub lowest_from : (ℕ → Bool) → ℕ → ℕ → Option ℕ
lowest_from f count from = slice_get (failing f from (count - from)) 0

-- The next one, starting over at 0 where there is none from `from` on.
unfoldable pub next_from : (ℕ → Bool) → ℕ → ℕ → Option ℕ
next_from f count from = option_or (lowest_from f count from) (lowest_from f count 0)

-- A buffer with the field of a transmission in it: format, RC and NC in the first byte, and the segment. The three bytes behind them stay.
unfoldable pub begun : ℕ → ℕ → List ℕ → List ℕ → List ℕ
begun control number segment buffer = (192 + 16 * control + number) ∷ (segment ++ drop 11 buffer)
