-- The paper's "Image": cells, commands, the reader's step and what it admits; Run and Expand; what an older image is (W-202). Nothing
-- of tables.
pub mod Cells
pub mod Commands
pub mod Reader
pub mod WellFormed
pub mod Run
pub mod OlderWidths
-- What inner functions promise and hold.
pub mod Inner
