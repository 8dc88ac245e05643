-- Tables in decimal text, which are not the paper's: words, numbers, what a text gives, and the same as plain conditions.
pub mod Words
pub mod Numbers
pub mod Table
pub mod Text
pub mod Conditions
-- What inner functions promise and hold.
pub mod Inner
