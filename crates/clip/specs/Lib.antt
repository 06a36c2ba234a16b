-- Cutting an edge to a window. Document 01, module 4, and what is promised of it.
pub mod Cut
pub mod Turns
pub mod Refuse
pub mod Answers
pub mod Values
pub mod Near
pub mod Promises
pub mod Inner
