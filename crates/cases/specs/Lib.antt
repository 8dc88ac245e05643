-- When a case of the test program passes: what its rows and lines hold, the count, then by operation.
pub mod Rows
pub mod Text
pub mod Tallies
pub mod DiagramCases
pub mod ReportCases
pub mod ImageCases
pub mod PairCases
pub mod CascadeCases
pub mod ReachCases
pub mod SumCases
