-- What is proved of the definitions of this crate; a file stands behind those whose laws it cites.
pub mod Checks
pub mod Clients
pub mod Counts
pub mod Diagram
pub mod Cascade
pub mod Image
pub mod Pairs
pub mod Reach
pub mod Report
pub mod Sums
pub mod Uses
