pub mod Arrivals
pub mod Edges
pub mod Estimates
pub mod Payers
pub mod Payments
pub mod States
pub mod Written
pub mod reading
