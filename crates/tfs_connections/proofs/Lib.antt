pub mod Keeping
pub mod Walks
pub mod Sent
