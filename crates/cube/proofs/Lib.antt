-- Laws of the six faces that the promises here and in the crates above cite.
pub mod Six
pub mod OnFace
pub mod Directions
pub mod Vectors
pub mod Neighbours
pub mod ByAxes
pub mod Greatest
pub mod Square
pub mod ReadBack
pub mod Axes
pub mod Promises
