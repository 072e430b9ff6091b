-- What the busiest second of a run is, and examples.
pub mod Busiest
pub mod Examples
