pub mod AddressLemmas
pub mod AcrossLemmas
