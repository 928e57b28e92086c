pub mod Accepting
pub mod Talking
pub mod Waiting
