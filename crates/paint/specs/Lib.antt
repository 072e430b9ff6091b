-- What everybody must believe of dimming.
pub mod Shade
pub mod inner
