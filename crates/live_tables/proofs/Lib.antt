mod Stands
mod Making
mod TableRows
mod MergedLemmas
mod MergeSteps
mod BeforeImageSteps
mod LogSteps
mod Refusals
pub mod LettingGo
