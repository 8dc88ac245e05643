-- The paper's "Table and blocks" and the classes of its "Cuts and grouping"; then, of W-203, how many classes a search tries, of
-- W-207, how many blocks use a class, and how all that lies in rows.
pub mod Blocks
pub mod Classes
pub mod Searching
pub mod Tries
pub mod Uses
pub mod Rows
-- What inner functions promise and hold.
pub mod Inner
