pub mod GoodRows
pub mod Reading
pub mod Header
