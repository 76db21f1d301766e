pub mod Mapping
pub mod Sums
pub mod Rounds
pub mod Covering
pub mod Bounds
pub mod Steps
pub mod Faults
pub mod Copies
