pub mod NextCommand
pub mod Talk
pub mod Exchange
pub mod Sessions
pub mod inner
