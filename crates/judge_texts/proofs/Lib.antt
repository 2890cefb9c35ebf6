pub mod Answers
pub mod Reading
pub mod FormulaLaws
pub mod NewForm
pub mod DefinitionLaws
