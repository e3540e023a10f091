pub mod Lacking
pub mod Covered
pub mod Asking
pub mod Reply
pub mod Pruning
pub mod SignedMessage
pub mod Synchronized
