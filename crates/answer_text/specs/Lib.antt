-- How answers are written, and what a function that writes promises.
pub mod Text
pub mod Added
pub mod Picture
pub mod Told
