-- The definitions that this crate's contracts cite.
pub mod Address
pub mod Steps
