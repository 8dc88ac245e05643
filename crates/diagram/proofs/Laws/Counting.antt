-- How many different lists there can be: the laws that lead to the node bound.
pub mod Different
pub mod Heights
pub mod Jumps
pub mod Kinds
pub mod Rising
