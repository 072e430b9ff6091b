-- Pixels that go through the table, and what the table holds.
pub mod Through
pub mod Table
