-- The paper's "Diagram", the operations Build and Walk, what is accepted, and what the node bound counts.
pub mod Records
pub mod Build
pub mod Walk
pub mod Accepted
pub mod Bound
-- What inner functions promise and hold.
pub mod Inner
