-- Lines by their answers, and parts of the numbers of a line.
pub mod Lines
pub mod Parts
