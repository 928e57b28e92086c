pub mod Across
pub mod Address
pub mod Reads
