-- What everybody must believe of region sheets, and examples.
pub mod Sheet
pub mod Bytes
pub mod Reader
pub mod Canon
pub mod Size
pub mod Promises
pub mod Examples
pub mod inner
