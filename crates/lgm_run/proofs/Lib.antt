pub mod ItemCheckLaws
pub mod Tables
pub mod TurnLaws
mod Zips
mod AlikeRequestLaws
pub mod CommandStepLaws
pub mod Progress
mod Reached
mod AnsweredLinesLaws
pub mod RunEndLaws
mod OfferLaws
