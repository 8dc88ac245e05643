-- What is written for a text.
pub mod Listed
