-- Nothing of the paper is said here: Compile is defined in cascade.
-- What inner functions promise and hold.
pub mod Inner
