-- Laws that the proofs of this crate cite, and the promises.
pub mod Halving
pub mod Storing
pub mod Filling
pub mod Opening
pub mod Going
pub mod Exits
pub mod Covers
pub mod Held
pub mod Scan
pub mod Lowest
pub mod Levels
pub mod Alike
pub mod Promises
