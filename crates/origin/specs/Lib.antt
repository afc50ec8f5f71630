pub mod CommitLemmas
pub mod Commits
pub mod Rule
