pub mod Slots
pub mod Tags
pub mod Paths
pub mod Holds
pub mod Table
pub mod Accepted
pub mod Flat
pub mod inner
