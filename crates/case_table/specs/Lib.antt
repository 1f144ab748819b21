pub mod CaseLists
