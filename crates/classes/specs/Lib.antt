-- The classing of a table's cuts: what the functions are lent and promise.
pub mod Inner
