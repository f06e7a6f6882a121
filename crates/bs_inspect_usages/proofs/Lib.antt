pub mod WordLemmas
pub mod ReasonLemmas
pub mod PlaceLemmas
pub mod SettingLemmas
pub mod ValueLemmas
pub mod TwiceLemmas
