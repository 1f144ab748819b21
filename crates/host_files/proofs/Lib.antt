pub mod MovedBytes
