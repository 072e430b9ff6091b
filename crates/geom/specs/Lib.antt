-- What everybody must believe of rectangles, and the limits.
pub mod Questions
pub mod Refusals
pub mod Geom
pub mod Rect16
pub mod Lists
pub mod Areas
pub mod Nearest
pub mod Displays
pub mod Bare
pub mod Limits
pub mod inner
