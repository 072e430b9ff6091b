-- What the rules of one window keep, and what its parts hold.
pub mod Damage
pub mod Entries
pub mod Events
pub mod Moves
