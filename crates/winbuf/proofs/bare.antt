-- Bare pixels: the place of a part decides what a call leaves.
pub mod Scanlines
pub mod Regions
