-- Lemmas of counts in a run of times.
pub mod laws
