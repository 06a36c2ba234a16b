-- Laws of intervals and rectangles that the promises here and in the crates above cite.
pub mod Parts
pub mod Between
pub mod Shared
pub mod Promises
