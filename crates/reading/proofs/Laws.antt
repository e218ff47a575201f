-- The laws that the crates above cite: how a search parts a text into lines and columns, and what digits write.
pub use Rattle.reading.proofs.Splitting.{before-le, before-take, first-column, split-column, whole-column, split_line, no_line_left, column_alone, column_then, line_then}
unfoldable pub use Rattle.reading.proofs.Splitting.{columns_size, lines_size, Lacks}
pub use Rattle.reading.proofs.Splitting.{columns_size_lem, lines_size-le, length-le-lines_size, lacks_none, lacks_more, line_ends, no_line, last_line}
pub use Rattle.reading.proofs.Values.{decimal-column, hex_number-whole, decimal_number-whole, hex_bytes-length}
pub use Rattle.reading.proofs.Splitting.{next-line}
-- ---- for tactics
pub use Rattle.reading.proofs.Splitting.{column_steps}
-- ---- end theorems, which no proof above cites
pub use Rattle.reading.proofs.Values.{digit-value-lt}
pub use Rattle.reading.proofs.Splitting.{line-within, line_taken}
