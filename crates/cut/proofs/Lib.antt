-- Laws of the lines that the proofs of this crate cite, and the promises.
pub mod Text
pub mod Promises
