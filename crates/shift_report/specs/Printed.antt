-- The rows of a text that sift printed, as they are counted there.
use Rattle.std.specs.Prelude.{ℕ, List, map, drop}
use Rattle.text.specs.Ascii.{line_feed}
use Rattle.reading.specs.Lines.{lines, columns, behind}
use Rattle.shift_report.specs.Tally.{Row}

-- the columns of a line after its number
unfoldable pub row_of : List ℕ → Row
row_of line = drop 1 (columns line)

unfoldable pub rows_in : List ℕ → List Row
rows_in text = map row_of (lines text)

-- those behind the header
unfoldable pub printed_rows : List ℕ → List Row
printed_rows text = rows_in (behind line_feed text)
