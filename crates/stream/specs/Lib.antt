-- How the programs read and write, how a program's run goes, and how it ends.
pub mod Counts
pub mod Run
