-- The program: the pieces of its samples, what is promised of them, and the words that it may be started with.
pub mod Samples
pub mod Pieces
pub mod Promises
pub mod Words
