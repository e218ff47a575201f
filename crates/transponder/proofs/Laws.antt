-- The laws that the crates above cite, about the definitions that the contract names.
pub use Rattle.transponder.proofs.Receiving.{Case, case, case_only, own_of_read, Admitted, admitted, answered_injective, said_injective}
