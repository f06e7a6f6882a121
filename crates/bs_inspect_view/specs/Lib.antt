pub mod Signals
pub mod Rtl
pub mod Values
pub mod Scopes
pub mod Drawn
pub mod Recorded
pub mod View
pub mod Save
