-- The plane: points, closed intervals, rectangles. Document 01, modules 1 to 3, and what is promised of them.
pub mod Point
pub mod Interval
pub mod Rect
pub mod Answers
pub mod Entries
pub mod Within
pub mod Promises
