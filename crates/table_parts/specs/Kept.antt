-- What the type of a part keeps.
--     IsPart      its line is its store's, and nothing has stopped it
use Rattle.std.specs.Prelude.{◌≡◌, None}
use Rattle.table_parts.specs.declared.part.Part.TheInside.{Inside}

-- Its line is its store's, and nothing has stopped it.
pub record IsPart (p : Inside) : Type 0 where
  pub line : p.line ≡ p.store.line
  pub runs : p.store.world.stopped ≡ None
