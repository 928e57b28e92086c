pub mod Query
pub mod Routing
pub mod Rows
pub mod Pieces
pub mod ReplyText
pub mod Asked
pub mod Lent
