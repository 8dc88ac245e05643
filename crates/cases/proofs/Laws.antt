-- What is proved of the definitions of this crate; a file stands behind those whose laws it cites.
pub mod ReachCases
pub mod ReportCases
pub mod Rows
pub mod Tests
pub mod CascadeCases
pub mod DiagramCases
pub mod ImageCases
pub mod PairCases
pub mod SumCases
pub mod Text
