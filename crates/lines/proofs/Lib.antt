pub mod Texts
pub mod Hops
pub mod Walked
pub mod Long
pub mod Prefix
pub mod Window
