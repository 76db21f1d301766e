mod Stored
pub mod Witnesses
