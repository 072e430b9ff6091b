-- Lemmas on one window.
pub mod laws
