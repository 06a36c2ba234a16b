-- The cube: vectors, the six faces, and what is refused. Document 01, module 5, and what is promised of it.
pub mod Vector
pub mod Faces
pub mod ByAxes
pub mod Refuse
pub mod Inner
pub mod Entries
pub mod Promises
