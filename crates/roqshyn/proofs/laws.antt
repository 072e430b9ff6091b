-- Lemmas over plain lists and numbers.
pub mod Events
pub mod Parts
