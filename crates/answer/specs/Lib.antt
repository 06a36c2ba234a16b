-- Why there is no value, and the number that says so.
pub mod Refusal
pub mod Promises
