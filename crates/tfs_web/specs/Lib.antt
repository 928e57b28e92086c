pub mod Access
pub mod Asked
pub mod Refusal
pub mod Replies
pub mod Routes
