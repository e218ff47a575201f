-- The laws that the crates above cite: what a byte does and what two pieces do, what is answered at the end, and when a call is
-- refused.
pub use Rattle.stream.proofs.Printing.{held-ended, held_kept, printed_ended, printed-kept, last_line, no-last-line}
pub use Rattle.stream.proofs.Joining.{printed-none, printed-first, held_none, held_first, printed-joined, held-joined, ended_le}
pub use Rattle.stream.proofs.Refusing.{fed-text, fed-held, fed-end, is_not-refused}
