-- Lemmas that the calls of a session share, and demand 3 of the program.
pub mod laws
pub mod demand
