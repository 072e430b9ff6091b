-- Lemmas that every crate above cites. Each folder uses the ones before it.
pub mod basics
pub mod geometry
