pub mod Pushed
pub mod Draft
pub mod Refusal
pub mod Impact
pub mod Reply
pub mod Transition
