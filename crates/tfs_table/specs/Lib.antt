pub mod Lawful
pub mod Workspaces
pub mod Table
pub mod Ready
pub mod Rebase
pub mod Compact
pub mod Open
pub mod Mark
