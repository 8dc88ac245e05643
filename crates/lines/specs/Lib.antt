-- Lines of text and numbers in decimal, and how they are read back.
pub mod Text
pub mod Reading
-- What inner functions promise and hold.
pub mod Inner
