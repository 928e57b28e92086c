pub mod BucketLemmas
pub mod DirectoryLemmas
pub mod ImpactLemmas
pub mod IndexLemmas
pub mod LawLemmas
pub mod LinkLemmas
pub mod ReachLemmas
pub mod ListingLemmas
