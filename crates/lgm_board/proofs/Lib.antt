pub mod Beginnings
mod HistoryLaws
mod Boards
