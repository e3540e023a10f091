mod Items
mod Answers
mod Reports
pub mod DealtPaymentLaws
pub mod RequestedLinesLaws
pub mod Slots
pub mod Scripts
pub mod WholeLines
pub mod Readings
pub mod SlotTexts
pub mod Parts
pub mod Runs
pub mod Ends
