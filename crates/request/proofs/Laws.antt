-- The laws that the crates above cite: what the columns of a well-formed line hold.
pub use Rattle.request.proofs.Formed.{message-fits, confidence-fits, word_size, limit-size, limit-decimal, all_digits}
