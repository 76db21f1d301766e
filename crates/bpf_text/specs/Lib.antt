pub mod Rule
pub mod Names
pub mod Mnemonics
pub mod Lines
pub mod Text
pub mod Canonical
pub mod Tables
pub mod inner
