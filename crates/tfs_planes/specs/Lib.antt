pub mod Plane
pub mod Relation
pub mod Rounds
pub mod Row
pub mod Targets
pub mod Walk
