-- The laws that the crates above cite: what sift prints for a line, and the whole output where the input is not too long.
pub use Rattle.report.proofs.Rows.{every-answer, no_output, line_text_lem, next_output_line, output_line_lem}
pub use Rattle.report.proofs.Texts.{output_read}
pub use Rattle.report.proofs.Long.{long_lines_alike}
