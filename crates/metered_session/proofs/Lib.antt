pub mod Metering
pub mod Serving
