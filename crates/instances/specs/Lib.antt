-- Document 01's instances.
pub mod Numbers
pub mod Instances
