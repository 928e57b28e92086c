pub mod Going
pub mod Captures
pub mod Once
pub mod Walks
