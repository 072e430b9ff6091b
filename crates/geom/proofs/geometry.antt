-- Rectangles: which pixels lists of them have, that no pixel is in two, how many there are, which is nearest to a point; and their numbers.
pub mod Facts
pub mod Sides
pub mod Four
pub mod Answers
pub mod Cover
pub mod Pieces
pub mod Apart
pub mod Bound
pub mod Remains
pub mod Areas
pub mod Nearest
pub mod Displays
pub mod Numbers
