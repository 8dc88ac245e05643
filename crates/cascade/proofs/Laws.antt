-- What is proved of the definitions of this crate; a file stands behind those whose laws it cites.
pub mod Admitting
pub mod Groupings
pub mod Cheapest
pub mod Chosen
pub mod Rows
pub mod Words
pub mod Cards
pub mod Cells
pub mod Lengths
pub mod Planned
pub mod Commonest
pub mod WellFormed
pub mod Compiled
pub mod WordReading
