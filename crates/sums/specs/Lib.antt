-- Sum and Remainder, of W-206.
pub mod Sums
-- What inner functions promise and hold.
pub mod Inner
