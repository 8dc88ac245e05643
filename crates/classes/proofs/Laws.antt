-- Laws of these: the search among known classes, a block of a cut, the rows block by block, a cut, all cuts.
pub mod Searching
pub mod Halves
pub mod Uses
pub mod Finding
pub mod Noting
pub mod Classing
pub mod Cut
pub mod CutRows
pub mod AllCuts
