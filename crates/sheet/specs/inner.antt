-- What our own functions say: nobody has to believe it.
pub mod Cursor
pub mod Checks
pub mod Numbers
pub mod Writer
