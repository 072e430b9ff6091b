-- What texts add, how the code puts them into the block, how a line begins, and what texts tell.
pub mod Added
pub mod Answered
pub mod Put
pub mod Pixels
pub mod Told
