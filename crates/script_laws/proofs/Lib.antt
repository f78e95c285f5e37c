pub mod accepted
pub mod Mirrored
pub mod SavedText
pub mod HeardEvents
pub mod Names
pub mod Shares
pub mod OwnLines
pub mod FusedLines
