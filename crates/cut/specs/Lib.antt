-- The program, document 01's module 8: its records and its lines, and what is promised of them.
pub mod Record
pub mod Line
pub mod Promises
