pub mod CalendarLemmas
pub mod DateLemmas
pub mod FormatLemmas
pub mod HttpDateLemmas
pub mod YearLemmas
pub mod DictionaryLemmas
pub mod ItemLemmas
pub mod RepeatLemmas
