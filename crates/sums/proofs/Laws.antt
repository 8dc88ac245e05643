-- What is proved of the definitions of this crate; a file stands behind those whose laws it cites.
pub mod Answers
pub mod Checks
pub mod Remainders
pub mod Split
pub mod Blocks
pub mod Classes
pub mod Diagrams
pub mod Extremes
pub mod PlainSum
pub mod ReducedSum
pub mod Summable
pub mod Filling
