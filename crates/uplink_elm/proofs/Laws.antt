-- The laws that the crates above cite, about the definitions that the contracts name.
pub use Rattle.uplink_elm.proofs.Numbers.{each_below, all-below, held-lt, held_is, with-here, with_other, with-lt, first-number, nothing_held, whole_of_held}
pub use Rattle.uplink_elm.proofs.Places.{stored-length, stored_here, stored_other, segment-at, segment-at-length, segment-length, segment_of, segment_by_field, copied, part_length}
pub use Rattle.uplink_elm.proofs.Effects.{own_answer, long_format, long_message, parts_by_first, parts_of, number-lt_16, other_leaves, refused_leaves}
pub use Rattle.uplink_elm.proofs.Refusing.{opens_none, is_above, of_own, unopened, above, Adding, opens-none, is_above_lem, of_own_lem, onward, two_rows, by-reception}
-- ---- end theorems, which no proof cites
pub use Rattle.uplink_elm.proofs.Effects.{said_injective}
