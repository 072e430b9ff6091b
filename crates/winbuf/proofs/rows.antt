-- Rows of pixels at a new width and height, and the rows of a blit.
pub mod Flat
pub mod Widths
pub mod Inside
pub mod Chunks
