pub mod Carried
pub mod Lessons
pub mod RouteOdds
pub mod Fading
pub mod Room
pub mod Cut
pub mod CutLaw
