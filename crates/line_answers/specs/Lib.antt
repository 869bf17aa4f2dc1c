pub mod ReportTexts
pub mod Reports
pub mod Texts
