-- What everybody must believe of a picture with a stride.
pub mod Stride
pub mod Limits
