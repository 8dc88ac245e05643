-- Reach, of W-205.
pub mod Reach
-- What inner functions promise and hold.
pub mod Inner
