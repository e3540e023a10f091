pub mod Members
mod Cuts
mod CarriedEdgeLaws
pub mod Numbers
mod ByChannel
mod Places
mod ListedEdgeLaws
mod PushedEdgeLaws
mod NewNumberLaws
mod Walked
mod WrittenEdgeLaws
mod TermLaws
mod NodeListLaws
mod ChangeLaws
mod UpdateLaws
mod AnnouncedNodeLaws
mod KeptEdgeLaws
mod CloseLaws
mod NewChannelLaws
mod BannedEdgeLaws
mod BanLaws
mod Once
pub mod ViewEdgeLaws
mod Counted
mod Keys
pub mod OverlayLaws
pub mod Further
mod ByNumber
mod LentLists
pub mod PlaceLaws
mod TouchedNodeLaws
mod OverrideLaws
mod Overlaid
mod OverlayViewLaws
pub mod EstimateLaws
mod FilterLaws
