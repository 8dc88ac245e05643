-- What the functions are lent and promise: the search among known classes, a block of a cut, the rows of a cut, a cut, all cuts.
pub mod Searching
pub mod Finding
pub mod Noting
pub mod Classing
pub mod Searched
