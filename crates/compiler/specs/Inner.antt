-- What inner functions promise and hold; a file stands behind those that it names.
pub mod Counted
pub mod Lengths
pub mod Placing
pub mod WordWriting
pub mod Writing
