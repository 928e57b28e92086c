pub mod LogLine
