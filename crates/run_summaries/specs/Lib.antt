pub mod Counts
pub mod SummaryTexts
