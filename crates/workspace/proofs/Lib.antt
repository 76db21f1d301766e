pub mod Lists
pub mod Naming
pub mod Turning
pub mod Running
