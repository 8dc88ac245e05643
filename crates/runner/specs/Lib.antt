-- Nothing of the paper is said here: Run and Expand are defined in image.
-- What inner functions promise and hold.
pub mod Inner
