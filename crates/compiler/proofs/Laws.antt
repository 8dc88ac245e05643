-- What is proved of the definitions of this crate; a file stands behind those whose laws it cites.
pub mod Commands
pub mod Compiles
pub mod Counting
pub mod Images
pub mod Measuring
pub mod Planned
pub mod Ready
pub mod Words
pub mod Cells
