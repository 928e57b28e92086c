-- The lemmas of this crate.
pub mod FirstPieceLemmas
pub mod ByteLemmas
pub mod EndLemmas
pub mod EitherLemmas
pub mod PieceLemmas
pub mod KeyLemmas
pub mod StopLemmas
pub mod ReadingLemmas
pub mod JsonLemmas
pub mod AddressLemmas
pub mod NearLemmas
