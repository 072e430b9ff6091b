-- What our own functions say: nobody has to believe it.
pub mod Seen
pub mod Outside
pub mod Extents
pub mod Walk
pub mod Visits
