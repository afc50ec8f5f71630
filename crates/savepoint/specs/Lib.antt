pub mod Savepoints
pub mod Record
pub mod RecordCode
pub mod RecordInside
pub mod Adopted
pub mod AdoptedLemmas
pub use Rattle.undo.specs.Undo
pub use Rattle.model.specs.Survivors
