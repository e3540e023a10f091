mod Values
mod Walks
mod Unwanted
mod Mended
mod FirstNews
mod Hops
mod Filling
mod ShortWords
mod Searches
mod SavedMaps
mod Maxima
mod Written
mod Built
mod Told
mod ReasonTold
pub mod Pruned
