-- What our own functions say: nobody has to believe it.
pub mod Above
pub mod Sort
pub mod Scan
