-- Lemmas of the topmost windows at points.
pub mod laws
