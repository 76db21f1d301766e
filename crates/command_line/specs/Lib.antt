pub mod Words
pub mod InRange
pub mod Endings
