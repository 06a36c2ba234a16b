-- The longest clean stretch of a trace: which it is, the answers, and what is promised of them.
pub mod Longest
pub mod Answers
pub mod Inner
pub mod Promises
