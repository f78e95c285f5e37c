pub mod Spelling
pub mod Evidence
pub mod Reading
pub mod Laws
