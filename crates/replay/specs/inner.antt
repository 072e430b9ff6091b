-- What our own functions say: nobody has to believe it.
pub mod Sheets
pub mod State
pub mod Shown
pub mod Run
