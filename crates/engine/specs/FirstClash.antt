-- Changes one after another: the first of them that clashes.
--     ClashesIn      it clashes so, and none before it does
use Rattle.std.specs.Prelude.{◌≡◌, List, ◌∷◌, ◌++◌}
use Rattle.model.specs.Rows.{Schema, Rows}
use Rattle.model.specs.Effect.{serial}
use Rattle.model.specs.declared.change.Change.{Change}
use Rattle.model.specs.Accepted.{AreAccepted}
use Rattle.change.specs.declared.outcome.Clash.{Clash}
use Rattle.change.specs.Refusal.{ClashesAs}

-- one of the changes is the first that clashes, and it clashes so; or memory was refused
pub record ClashesIn (schema : Schema) (rows : Rows) (cs : List Change) (clash : Clash) : Type 0 where
  pub before : List Change
  pub change : Change
  pub after : List Change
  pub split : cs ≡ before ++ change ∷ after
  pub clear : AreAccepted schema rows before
  pub refused : ClashesAs schema (serial schema rows before) change clash
