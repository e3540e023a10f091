pub mod Routes
pub mod Answers
pub mod Choice
pub mod Words
pub mod Odds
pub mod Preferred
pub mod Reasons
pub mod inner
