-- What the numbers of a line are, and what the lines of rectangles and pixels alone write.
pub mod Numbers
pub mod Told
