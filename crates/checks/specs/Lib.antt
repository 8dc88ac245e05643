-- When a line of the test program's text passes.
pub mod Cases
