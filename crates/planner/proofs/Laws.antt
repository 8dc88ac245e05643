-- What is proved of the definitions of this crate; a file stands behind those whose laws it cites.
pub mod Choosing
pub mod Leading
pub mod Listed
pub mod Plans
pub mod Pricing
pub mod Rows
