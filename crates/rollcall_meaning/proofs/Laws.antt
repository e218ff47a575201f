-- The laws that the crates above cite.
pub use Rattle.rollcall_meaning.proofs.Refusing.{lengths_wrong, wrong_lengths, unsound, not_sound, no_place, place_none, clear_leaves, add_leaves, remove_leaves}
-- ---- end theorems, which no proof cites
pub use Rattle.rollcall_meaning.proofs.Sounding.{checked_is_sound, keeps_sound, clear_mends, none_live_twice}
pub use Rattle.rollcall_meaning.proofs.Changing.{find_gives, absent_where_nothing, absent_changes_nothing, add_puts, says_whether_it_stands, held_changes_nothing, full_exactly, remove_takes_out, clear_empties, clear_unsets_marks, remove_unsets_mark, add_changes_one}
pub use Rattle.rollcall_meaning.proofs.Running.{answers_of_a_plain-map}
pub use Rattle.rollcall_meaning.proofs.Standing.{beats_by, beats_orders, one-stands}
pub use Rattle.rollcall_meaning.proofs.Replying.{earliest_unbeaten_stands, stands_among_others}
