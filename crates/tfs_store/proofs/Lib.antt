pub mod ChainLemmas
pub mod KeptLemmas
pub mod RegisterLemmas
pub mod RowLemmas
pub mod TextLemmas
pub mod WriterLemmas
