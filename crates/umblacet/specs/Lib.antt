-- What C sees of an answer; and what is promised of that where something is refused, and of calls that write into one buffer.
pub mod Answers
pub mod Cut
pub mod Axis
pub mod Calls
pub mod Promises
