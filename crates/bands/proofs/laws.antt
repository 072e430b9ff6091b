-- Each file uses the ones before it.
pub mod Rows
pub mod Sorts
pub mod Pass
pub mod Same
pub mod Down
pub mod Scans
