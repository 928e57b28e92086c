pub mod KeptLemmas
pub mod LockTextLemmas
pub mod MemoryLemmas
