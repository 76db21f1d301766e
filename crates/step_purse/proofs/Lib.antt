pub mod Lists
pub mod Calls
pub mod Chains
pub mod Shares
pub mod Steps
pub mod Opening
