pub mod Captures
pub mod Crossing
pub mod Refusing
pub mod Shares
pub mod Signing
pub mod Stopping
