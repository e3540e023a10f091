pub mod Orders
pub mod Rests
pub mod Labels
pub mod SpendingLaws
pub mod Sums
pub mod Chains
pub mod Steps
pub mod Passed
pub mod FrontLaws
pub mod NewFrontLaws
pub mod Endings
pub mod RelaxationLaws
pub mod Bounded
pub mod ReachedLaws
pub mod ReachedPlaces
pub mod ForwardStates
pub mod Searches
pub mod SpentSearches
pub mod SpentDives
pub mod RestsMade
pub mod WalkOrderLaws
pub mod PointWalkLaws
pub mod HopLaws
pub mod Visits
pub mod ChoiceLaws
pub mod PreferredLaws
pub mod FoundRoutes
mod NarrowedEdgeLaws
mod SoughtEdges
mod ReasonLaws
