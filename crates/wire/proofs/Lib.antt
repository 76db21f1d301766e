pub mod Known
pub mod Fetching
pub mod Gathering
pub mod Carriage
pub mod Sending
pub mod Stays
pub mod Asking
