-- What is proved of the definitions of this crate; a file stands behind those whose laws it cites.
pub mod Decimals
pub mod Digits
pub mod Writing
pub mod Pieces
pub mod Apart
