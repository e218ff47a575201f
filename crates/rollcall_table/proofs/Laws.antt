-- The laws that the crates above cite.
pub use Rattle.rollcall_table.proofs.Along.{free_position, unmarked_to, unmark_turn, unmark_end, below-count, next-parts, order_parts, from_least}
pub use Rattle.rollcall_table.proofs.Counting.{live_within, live_none, same_count, less_count, more_count, order_set}
pub use Rattle.rollcall_table.proofs.Soundness.{Parts, parts, of_parts, sound, sound-parts, lengths_right, in_order_lem, is_next_lem}
pub use Rattle.rollcall_table.proofs.Searching.{is_low, searchable, search-is}
pub use Rattle.rollcall_table.proofs.Freeing.{free_is, free_first, free_fewer, full}
pub use Rattle.rollcall_table.proofs.Holding.{holds_parts, is_held_lem, holder-le, in_holds, holds_in, not_in, alone, in-there}
pub use Rattle.rollcall_table.proofs.Beating.{beats-is, is-beats, beats_irreflexive, beats_transitive, beats-or_agrees, beats-others}
