pub mod Id
pub mod LockInfo
pub mod LockText
