pub mod PlacesLemmas
pub mod SlotsLemmas
pub mod BlocksLemmas
