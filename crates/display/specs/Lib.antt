-- What the displays in memory stand for.
pub mod Represents
pub mod inner
