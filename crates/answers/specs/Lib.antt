-- The answering program: requests, the operations, their lines, and what is promised of them.
pub mod Request
pub mod Reply
pub mod Table
pub mod Number
pub mod Lent
pub mod Walked
pub mod Traced
pub mod Paged
pub mod Line
pub mod Promises
