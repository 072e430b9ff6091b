-- Each file uses the ones before it.
pub mod Kinds
pub mod Bytes
pub mod Calls
pub mod Steps
pub mod Blocks
pub mod Letters
pub mod Meaning
