-- Lemmas on floats that are whole quarters, and on the rows of a target.
pub mod laws
