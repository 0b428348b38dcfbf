pub mod DigitLaws
pub mod PieceLaws
pub mod KindLaws
pub mod Reading
pub mod TokenFacts
pub mod DivisionLaws
pub mod Cases
pub mod LineLaws
