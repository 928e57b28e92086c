pub mod Chained
pub mod Chains
pub mod Effects
pub mod Ignored
pub mod Plan
pub mod Reached
pub mod Same
pub mod Search
