-- What is proved of the definitions of this crate; a file stands behind those whose laws it cites.
pub mod Buffers
pub mod Lines
pub mod Words
pub mod Positions
pub mod Numbers
pub mod Items
pub mod Values
pub mod Tables
pub mod Conditions
pub mod Written
