pub mod Reports
pub mod Sources
