pub mod CopyFacts
