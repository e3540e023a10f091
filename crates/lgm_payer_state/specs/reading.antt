pub mod Reading
pub mod InOrder
pub mod EdgesReading
pub mod PaymentsReading
pub mod ArrivalsReading
pub mod EstimatesReading
pub mod PayersReading
