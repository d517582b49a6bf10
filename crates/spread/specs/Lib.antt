pub mod Kinds
pub mod Leads
pub mod Spread
pub mod Laws
pub mod Sweep
pub mod OrAssoc
