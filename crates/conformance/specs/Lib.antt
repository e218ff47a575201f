-- The demands, each sentence as one statement; the theorems that prove them stand in proofs/ under the same names, in lower
-- case.
pub mod Refusals
pub mod Sealing
pub mod Bursts
pub mod Accepting
pub mod Correcting
pub mod Noticing
pub mod Altitudes
pub mod Antennas
pub mod Packing
pub mod Uploads
pub mod Bench
