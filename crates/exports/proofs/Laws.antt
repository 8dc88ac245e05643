-- What is proved of the definitions of this crate; a file stands behind those whose laws it cites.
pub mod DiagramGiven
pub mod Planned
pub mod RanGiven
pub mod ReachGiven
pub mod ReportGiven
pub mod Results
pub mod ImageGiven
pub mod Room
pub mod SumGiven
