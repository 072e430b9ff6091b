-- Floats that are whole quarters, which floats are, and what a look comes to in both; then rows and pictures.
pub mod Exact
pub mod Compare
pub mod Means
pub mod Five
pub mod Agree
pub mod Picture
pub mod Columns
pub mod Rows
pub mod Ends
