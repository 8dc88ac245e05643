-- What is proved of the definitions of this crate; a file stands behind those whose laws it cites.
pub mod Apart
pub mod Listed
pub mod Kept
pub mod Printed
pub mod Shown
pub mod Lengths
pub mod Texts
pub mod Values
pub mod Inputs
