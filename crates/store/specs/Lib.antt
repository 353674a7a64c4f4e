pub mod Growth
pub mod Quotas
