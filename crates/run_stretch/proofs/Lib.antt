-- Laws that the proofs of this crate cite, and the promises.
pub mod Decimal
pub mod Written
pub mod Found
pub mod Promises
