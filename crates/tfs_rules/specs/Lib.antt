pub mod Act
pub mod Name
pub mod History
pub mod HistoryLaws
pub mod Verdict
