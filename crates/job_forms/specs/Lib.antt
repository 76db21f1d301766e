pub mod Forms
pub mod Product
pub mod Region
pub mod inner
