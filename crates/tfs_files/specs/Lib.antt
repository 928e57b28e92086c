pub mod FolderFacts
pub mod Naming
pub mod Copies
pub mod Start
pub mod Retention
pub mod Status
pub mod Faults
pub mod Zeros
