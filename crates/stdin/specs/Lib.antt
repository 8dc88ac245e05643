-- What is kept of standard input.
pub mod Input
-- What inner functions promise and hold.
pub mod Inner
