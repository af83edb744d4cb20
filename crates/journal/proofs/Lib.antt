pub mod At
pub mod Factors
pub mod Situations
pub mod Decisions
pub mod Loop
