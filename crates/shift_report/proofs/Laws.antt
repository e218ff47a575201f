-- The laws that the crates above cite: the seven kinds of rows that sift prints, and its printed lines, read again.
pub use Rattle.shift_report.proofs.Answered.{Kind, kind_row, row-shown}
pub use Rattle.shift_report.proofs.Printing.{line_text, line_columns, output_lines_lem, no_output_lines, printed-lines}
