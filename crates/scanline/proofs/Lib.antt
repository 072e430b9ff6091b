-- Lemmas on rows of pixels.
pub mod rows
