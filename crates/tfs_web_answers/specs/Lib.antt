pub mod Instances
pub mod Readers
