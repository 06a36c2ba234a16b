-- Laws of samples that the proofs here and in the programs cite.
pub mod Reading
pub mod Floats
