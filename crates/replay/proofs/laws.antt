-- Sizes that a session's rules bound, a match's last arm, the call that a kind picks, the bytes of a line, what a call leaves of the player, and the texts
-- that lines add.
pub mod Sizes
pub mod Arms
pub mod Picked
pub mod Bytes
pub mod Made
pub mod Nexts
pub mod Lists
pub mod Shows
pub mod Runs
pub mod Lends
