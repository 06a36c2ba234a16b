-- Laws of bytes, digits and texts that the proofs here and in the crates above cite.
pub mod Stored
pub mod Words
pub mod Text
pub mod Ends
pub mod Parts
