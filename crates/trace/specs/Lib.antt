-- A whole trace in one call: its edges and their cuts, the records and counts, what is refused, and what is promised.
pub mod Trace
pub mod Records
pub mod Inner
pub mod Refuse
pub mod Answers
pub mod Promises
