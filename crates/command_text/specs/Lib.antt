pub mod Words
pub mod Hexadecimal
pub mod Requests
pub mod Readings
pub mod ReplyText
pub mod Replies
pub mod Lines
pub mod inner
