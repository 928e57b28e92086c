pub mod LockedState
pub mod Impact
pub mod Locked
pub mod Signed
pub mod Stops
pub mod View
