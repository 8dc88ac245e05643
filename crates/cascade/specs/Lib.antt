-- The paper's "Cuts and grouping" from the grouping on, the operations Plan and Compile, and cells as rows of numbers.
pub mod Cascade
pub mod Groupings
pub mod Plan
pub mod Compile
pub mod Rows
-- What inner functions promise and hold.
pub mod Inner
