-- Laws that the proofs of this crate cite, and the promises.
pub mod Run
pub mod Listed
pub mod Floats
pub mod Promises
pub mod ThreeEntries
