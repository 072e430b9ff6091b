-- Counts of events, the greatest and its first place; a run in order; and the search with two places.
pub mod Counts
pub mod Runs
pub mod Search
