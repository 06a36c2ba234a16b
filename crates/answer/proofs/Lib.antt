-- What is known of the numbers.
pub mod Beside
pub mod Promises
