pub mod Acceptors
pub mod Listening
pub mod Serving
pub mod inner
