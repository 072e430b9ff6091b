-- What the contracts of the program cite.
pub mod Called
pub mod Ready
pub mod Looks
pub mod Told
pub mod Played
pub mod Run
pub mod inner
