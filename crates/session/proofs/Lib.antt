pub mod Grammar
pub mod Bodies
pub mod Asking
pub mod Matching
pub mod Exchanging
pub mod Talking
