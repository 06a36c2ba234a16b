-- Is the trace on this page at all? The halves of its edges, their boxes, the search down the halves, the answers, and what is promised of them.
pub mod Halves
pub mod Boxes
pub mod Search
pub mod Answers
pub mod Inner
pub mod Promises
