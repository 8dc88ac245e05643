-- What is proved of the definitions of this crate; a file stands behind those whose laws it cites.
pub mod Blocks
pub mod Commonest
pub mod Differences
pub mod Order
pub mod Same
pub mod Comparing
pub mod Known
pub mod Classes
pub mod Cuts
pub mod Latest
pub mod Places
pub mod Searching
pub mod TryRows
pub mod Tries
pub mod UseRows
pub mod Counting
pub mod Uses
