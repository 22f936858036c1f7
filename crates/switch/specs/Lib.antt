pub mod Choice
pub mod Cell
pub mod Answers
pub mod Checks
pub mod Step
pub mod Exactly
pub mod Alike
