-- The laws that the programs cite: what a program that takes so many bytes makes of the start of an input.
pub use Rattle.console.proofs.Input.{cond-take, writes-all}
