-- The laws that the crates above cite: a list from a place on and a pick by a test, appending to a buffer, how many
-- digits a text has, and texts that a given byte does not part.
pub use Rattle.text.proofs.Parts.{next_byte, no_more, picked, passed_over}
pub use Rattle.text.proofs.Appending.{append-none, part_done, at_start, taken-le, append_length, appends_length}
pub use Rattle.text.proofs.Spelling.{hex_text-length, decimal-length}
unfoldable pub use Rattle.text.proofs.Above.{above}
pub use Rattle.text.proofs.Above.{above-cons, above-parts, above-append, above_lower, hex_above, decimal-above}
-- ---- for tactics
pub use Rattle.text.proofs.Appending.{appending}
pub use Rattle.text.proofs.Spelling.{ten_digits}
-- ---- end theorems, which no proof above cites
pub use Rattle.text.proofs.Appending.{append-append, append-fits}
pub use Rattle.text.proofs.Spelling.{one-digit, more_digits}
