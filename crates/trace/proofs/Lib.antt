-- Laws that the proofs of this crate cite, and the promises.
pub mod OneEdge
pub mod Touch
pub mod Cuts
pub mod Samples
pub mod Writing
pub mod Exits
pub mod Joins
pub mod Lent
pub mod Own
pub mod OwnEnd
pub mod Untouched
pub mod Promises
