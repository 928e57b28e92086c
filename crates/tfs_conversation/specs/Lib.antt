pub mod Desk
pub mod Messages
pub mod Conversation
pub mod Arrived
pub mod Turns
pub mod Output
pub mod Check
pub mod Rebase
