-- Changes of which none is refused.
--     HasNoClash      a change does not clash
--     AreAccepted      none of these does, each on the rows that those before it leave
use Rattle.std.specs.Prelude.{◌≢◌, List, [], ◌∷◌}
use Rattle.model.specs.declared.change.Change.{Change}
use Rattle.model.specs.Rows.{Rows, Schema}
use Rattle.model.specs.Effect.{ClashCause, Clashes, outcome, effect}

-- the change does not clash
abbrev pub HasNoClash : Schema → Rows → Change → Type 0
HasNoClash schema rows c = (cause : ClashCause) → outcome schema rows c ≢ Clashes cause

-- none of the changes clashes, each on the rows that those before it leave
abbrev pub AreAccepted : Schema → Rows → List Change → Type 0
AreAccepted schema rows [] = Unit {0}
AreAccepted schema rows (c ∷ cs) = HasNoClash schema rows c × AreAccepted schema (effect schema rows c) cs
