-- The paper's "Listing program": its text, the function that writes it, and what is kept of an input.
pub mod Listing
pub mod Lines
pub mod Program
pub mod Kept
-- What inner functions promise and hold.
pub mod Inner
