pub mod HopPayload
pub mod Arrival
pub mod Building
pub mod reading
