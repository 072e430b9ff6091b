-- The parts that the walk has left, and the rules part by part. Each file uses the ones before it.
pub mod Depth
pub mod Parts
pub mod Table
pub mod Regions
pub mod Split
pub mod Cuts
pub mod Walks
pub mod Lists
pub mod Shown
pub mod Pixels
pub mod Reach
pub mod Outside
pub mod Once
pub mod Drawing
pub mod Extents
pub mod Joining
pub mod Entries
