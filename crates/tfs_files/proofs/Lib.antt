pub mod RetentionLemmas
