-- The instances, computed.
pub mod Instances
