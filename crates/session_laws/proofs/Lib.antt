pub mod Bare
pub mod OneFault
pub mod Alike
pub mod Turns
pub mod Talks
pub mod Beginnings
pub mod Examples
