-- The displays in their array, the search for the one that a position is on or closest to, one display more, and sixteen windows that go to them.
pub mod Regions
pub mod Search
pub mod Added
pub mod Update
