-- Laws that the proofs of this crate, and of the crates above it, cite.
pub mod Lines
pub mod Balance
pub mod Tests
pub mod Normal
pub mod Ratio
pub mod Exit
pub mod Corner
pub mod Next
pub mod Promises
