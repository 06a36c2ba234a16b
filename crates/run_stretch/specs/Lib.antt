-- The program that finds the longest clean stretch: its line, and what is promised of it.
pub mod Line
pub mod Promises
