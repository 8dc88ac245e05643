-- The report of W-201.
pub mod Report
-- What inner functions promise and hold.
pub mod Inner
