-- The form of every operation's answer, lists by tests, the paper's ranges and widths, and the same ranges as plain conditions.
pub mod Answers
pub mod Refusals
pub mod Lists
pub mod Extremes
pub mod Ranges
pub mod Widths
pub mod Conditions
-- What inner functions promise and hold.
pub mod Inner
