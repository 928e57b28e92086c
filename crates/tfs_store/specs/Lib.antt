pub mod Pieces
pub mod Register
pub mod Rows
pub mod Texts
pub mod Values
pub mod Writer
