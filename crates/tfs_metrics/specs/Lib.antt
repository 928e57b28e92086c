pub mod Answers
pub mod Durations
pub mod Kind
pub mod Scrape
