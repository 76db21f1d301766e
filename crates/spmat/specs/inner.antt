-- What serves this crate's own modules. The program has no public contract.
pub mod Running
pub mod Address
pub mod Reporting
pub mod Serving
