pub mod Arity
pub mod LineEnd
