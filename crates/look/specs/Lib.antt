-- What everybody must believe of a look, the same rule in whole quarters, what links the two, and examples.
pub mod Floats
pub mod Fit
pub mod View
pub mod Quarters
pub mod Agree
pub mod Examples
pub mod inner
