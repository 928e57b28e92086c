pub mod Pairs
pub mod Replies
pub mod Requests
