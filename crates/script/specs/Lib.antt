-- What a line means, and the machine that reads it.
pub mod Text
pub mod Kind
pub mod Script
pub mod Examples
pub mod Machine
pub mod inner
