-- The pair run of W-204, and tables of two variables.
pub mod Pairs
pub mod Conditions
pub mod PairTables
