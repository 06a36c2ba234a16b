-- The line tests and the step from face to face: document 01, module 6, and what is promised of it.
pub mod Line
pub mod Refuse
pub mod Entries
pub mod Promises
