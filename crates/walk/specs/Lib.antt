pub mod Network
pub mod Walk
pub mod Condition3
pub mod Cases
pub mod Exactly
