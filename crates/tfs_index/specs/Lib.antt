pub mod Directory
pub mod Impact
pub mod Index
pub mod Links
pub mod Reach
pub mod Listing
