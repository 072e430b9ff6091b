-- The topmost window at a point, and those at many points, with their questions.
pub mod Topmost
pub mod Written
pub mod Hits
pub mod Points
