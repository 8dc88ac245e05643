-- Operands: numbers as bytes.
pub mod Bytes
-- What inner functions promise and hold.
pub mod Inner
