-- What everybody must believe of one window.
pub mod Window
pub mod Represents
pub mod inner
