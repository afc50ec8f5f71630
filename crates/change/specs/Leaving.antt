-- What a change leaves of the tables, whatever came of it.
--     Leaves      the answer tells the outcome, and the tables are as it says
use Rattle.std.specs.Prelude.{◌≡◌, Result, OnOk, OnErr}
use Rattle.model.specs.declared.change.Change.{Change}
use Rattle.model.specs.Effect as tables
use Rattle.model.specs.Footprint.{footprint}
use Rattle.indexes.specs.Content.{Content, KeepsCells}
use Rattle.change.specs.declared.outcome.Applied.{Applied}
use Rattle.change.specs.declared.outcome.Clash.{Clash}
use Rattle.change.specs.Altered.{cells_altered}
use Rattle.change.specs.Applied.{AnswersOutcome, IfDone, room_after}
use Rattle.change.specs.Inverse.{edits_of, CanPutBack}

-- One that is done has its effect, and an inverse that gives the rows back; one that is refused leaves the rows. No room goes.
pub record Leaves (old new : Content) (c : Change) (r : Result Applied Clash) : Type 0 where
  pub answer : AnswersOutcome (tables.outcome old.schema old.rows c) r
  pub ok : OnOk r (new.rows ≡ tables.effect old.schema old.rows c)
  pub err : OnErr r (new.rows ≡ old.rows)
  pub inverse : IfDone r (λ i. edits_of i ≡ tables.inverse old.schema old.rows c)
  pub altered : IfDone r (λ i. KeepsCells (cells_altered i) (footprint old.schema old.rows c))
  pub can_put_back : IfDone r (λ i. CanPutBack new i)
  pub room : KeepsCells old.room (room_after new.room r)
  pub schema : new.schema ≡ old.schema
