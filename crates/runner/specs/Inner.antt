-- What inner functions promise and hold; a file stands behind those that it names.
pub mod Images
