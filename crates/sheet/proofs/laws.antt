-- Each file uses the ones before it.
pub mod Pixels
pub mod Unique
pub mod Bits
pub mod Fields
pub mod Packing
pub mod Reading
pub mod Checking
pub mod Copying
pub mod Numbers
pub mod Snoc
pub mod Puts
pub mod Sheets
pub mod Promises
pub mod Canon
pub mod Edges
pub mod Bounds
