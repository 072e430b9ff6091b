-- What our own functions say: nobody has to believe it.
pub mod One
pub mod Frames
pub mod Find
pub mod Drawing
pub mod Sharing
pub mod Lent
pub mod Pixels
pub mod Maximise
pub mod Drag
pub mod Events
pub mod Aimed
pub mod Stale
