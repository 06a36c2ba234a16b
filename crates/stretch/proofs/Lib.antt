-- Laws that the proofs of this crate cite, and the promises.
pub mod Least
pub mod Runs
pub mod Clean
pub mod Skipping
pub mod Passing
pub mod Whole
pub mod Answered
pub mod Drawn
pub mod Promises
