-- Lemmas on rows at a new size, on the rows of a blit, and on the parts of lent pixels that the bare calls take.
pub mod rows
pub mod bare
