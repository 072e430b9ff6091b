-- Lemmas on displays.
pub mod laws
