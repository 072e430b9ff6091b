-- What everybody must believe of pixels.
pub mod Altered
pub mod Pixels
pub mod inner
