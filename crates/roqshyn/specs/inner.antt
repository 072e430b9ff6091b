-- What our own functions say: nobody has to believe it.
pub mod Parts
pub mod Reaches
