pub mod Json
pub mod Kept
pub mod Tree
pub mod Taken
