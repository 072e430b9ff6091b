-- Rows of pixels in a list: what stands at each place after they were written, and what a loop along a row or over rows leaves at each turn.
pub mod Rows
pub mod Paint
pub mod Runs
pub mod Columns
pub mod Move
pub mod Written
pub mod Altered
pub mod Turns
