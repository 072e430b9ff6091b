-- What the proof of the program cites.
pub mod laws
