-- How answers come back through C: what all have in common, then by operation.
pub mod Results
pub mod Classing
pub mod DiagramGiven
pub mod ReportGiven
pub mod RanGiven
pub mod ImageGiven
pub mod CascadeGiven
pub mod ReachGiven
pub mod SumGiven
