pub mod MadeText
pub mod MadeMeaning
pub mod Left
pub mod Laws
