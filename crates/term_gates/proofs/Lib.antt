pub mod Numbered
pub mod Moving
pub mod ByKind
pub mod Tiny
