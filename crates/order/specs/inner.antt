-- What our own functions say: nobody has to believe it.
pub mod Order
pub mod Layers
pub mod Frames
pub mod Rects
