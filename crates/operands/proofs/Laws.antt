-- What is proved of the definitions of this crate; a file stands behind those whose laws it cites.
pub mod Bytes
pub mod Digits
pub mod Operands
