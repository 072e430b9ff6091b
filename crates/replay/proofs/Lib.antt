-- Lemmas that the lines share.
pub mod laws
