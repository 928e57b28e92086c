pub mod HistoryLemmas
pub mod AcceptedLemmas
pub mod VerdictLemmas
pub mod HistoryLawLemmas
