pub mod Devices
pub mod Prefixes
pub mod Sending
pub mod InputState
pub mod Lines
pub mod Fetching
pub mod inner
