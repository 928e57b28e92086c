pub mod AnswerLemmas
pub mod DraftLemmas
pub mod QueryLemmas
