-- The laws that the crates above cite: small facts about tests, numbers and parts of lists, what no two equations can say
-- together, how a test picks an answer, and facts by a computed test.
pub use Rattle.outcome.proofs.Small.{never, or_cases, or_second, positive, part_from}
pub use Rattle.outcome.proofs.Picking.{refusal_is_no_answer, same_answer, same-value, refused, passed, passed_value, unless_passed, unless-answer, unless_refuses, unless_unrefused, passed_row, refused_row, refused_at, refused_by, rows, said_by_injective, admission_injective, left_of, left_refused, left_done, writing}
unfoldable pub use Rattle.outcome.proofs.Testing.{every, tabulate}
pub use Rattle.outcome.proofs.Testing.{tested, tabulated, when, both}
pub use Rattle.outcome.proofs.Rows.{row_of, row_of-number, same_row}
