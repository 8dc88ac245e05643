-- What is proved of the definitions of this crate; a file stands behind those whose laws it cites.
pub mod Answers
pub mod Checks
pub mod Counts
pub mod NarrowCells
pub mod Narrowest
pub mod Rails
pub mod Reached
pub mod Beside
pub mod Found
pub mod Reaching
pub mod Refusals
