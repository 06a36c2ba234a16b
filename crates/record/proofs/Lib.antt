-- Laws of the record's bytes.
pub mod Words
pub mod Ahead
pub mod Joined
pub mod Numbered
