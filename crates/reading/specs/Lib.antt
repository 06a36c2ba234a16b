-- What the programs that take a trace read: a window, and then samples.
pub mod Samples
