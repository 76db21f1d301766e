pub mod Race
pub mod Chunks
pub mod Naming
pub mod Rule
pub mod Crews
pub mod inner
