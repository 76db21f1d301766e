pub mod Plain
pub mod Shares
pub mod Histories
pub mod Rule
pub mod Seats
pub mod Passes
pub mod inner
