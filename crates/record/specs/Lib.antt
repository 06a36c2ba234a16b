-- The 40-byte record, and what is promised of its trace number.
pub mod Record
pub mod Inner
pub mod Numbered
