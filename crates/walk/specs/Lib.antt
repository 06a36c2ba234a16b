-- The walk: document 01, module 7, and what is promised of it.
pub mod Walk
pub mod Refuse
pub mod Answers
pub mod Promises
pub mod Inner
