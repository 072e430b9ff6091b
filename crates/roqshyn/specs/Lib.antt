-- What the exported calls promise, beside what the crates below them do.
pub mod Answers
pub mod Events
pub mod Looks
pub mod Parts
pub mod Rects
pub mod Version
pub mod inner
