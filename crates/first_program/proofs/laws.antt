-- What the rules give for the program's calls.
pub mod Calls
