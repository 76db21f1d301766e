pub mod Parts
pub mod FirstLine
pub mod FirstWord
pub mod Digits
pub mod Written
