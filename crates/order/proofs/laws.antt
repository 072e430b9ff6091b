-- The search for a window's place, the gap that a hidden window leaves, that opened for one that joins, and rectangles held as numbers.
pub mod Order
pub mod Layers
pub mod Flags
pub mod Rects
pub mod Above
