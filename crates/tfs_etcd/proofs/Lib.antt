pub mod PairLemmas
pub mod PutLemmas
