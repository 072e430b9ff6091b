-- What everybody must believe of bare pixels, and the limits.
pub mod Pixels
pub mod Bare
pub mod Limits
pub mod inner
