pub mod BlockLemmas
pub mod HashLemmas
pub mod LaneLemmas
pub mod StepLemmas
