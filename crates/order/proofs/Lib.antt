-- Lemmas of the render order in its array.
pub mod laws
