-- The laws that the crates above cite: columns one after the other, and the columns of each answer.
pub use Rattle.verdicts.proofs.Texts.{spaced-nil, spaced-cons, spaced-append}
pub use Rattle.verdicts.proofs.Texts.{refused-columns, clean_columns, dense_columns, nofit_columns, sole_columns, several_columns}
