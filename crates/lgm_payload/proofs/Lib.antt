pub mod Values
pub mod Records
pub mod PayloadLaws
pub mod BuildingLaws
pub mod OnionLaws
pub mod ArrivalLaws
