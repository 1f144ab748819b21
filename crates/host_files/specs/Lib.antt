pub mod MadeStreams
