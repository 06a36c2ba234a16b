-- What is said of floats, and the words in which every other crate's definitions are written. Definitions and statements only.
pub mod Choice
pub mod Float
pub mod Exact
pub mod Errors
pub mod Laws
