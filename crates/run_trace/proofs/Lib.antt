-- Laws that the proofs of this crate cite.
pub mod Cutting
pub mod Pieces
pub mod Blocks
pub mod Promises
pub mod Digits
pub mod Letters
