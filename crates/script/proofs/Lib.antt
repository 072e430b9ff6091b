-- Lemmas on the lines of a call script.
pub mod laws
