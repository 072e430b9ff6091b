-- Lemmas on dimming.
pub mod laws
