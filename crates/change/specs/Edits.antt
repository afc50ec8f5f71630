-- Edits over edits.
--     or_else      what one of two has, the first before the second
--     laid_over, laid_together      the edits of one, and those of the other where it has none; of a list, where the first has the say
use Rattle.std.specs.Prelude.{List, [], ◌∷◌, Option, Some, None}
use Rattle.std.specs.FinMap as map_of
use Rattle.model.specs.declared.row.Row.{Row}
use Rattle.model.specs.Rows.{Place}
use Rattle.model.specs.Effect.{Edits}

-- the first, or else the second
abbrev pub or_else : {X : Type 0} → Option X → Option X → Option X
or_else None other = other
or_else (Some x) other = Some x

-- the edits with these put in; at one place the first of these has the say
abbrev pub insert_all : List (Place × Option Row) → Edits → Edits
insert_all [] edits = edits
insert_all (e ∷ es) edits = map_of.insert (insert_all es edits) e.0 e.1

-- the edits of the first, and of the second at other places
abbrev pub laid_over : Edits → Edits → Edits
laid_over edits others = insert_all (map_of.entries edits) others

-- the edits of a list as one; at one place the first that has an edit has the say
abbrev pub laid_together : List Edits → Edits
laid_together [] = map_of.empty
laid_together (edits ∷ rest) = laid_over edits (laid_together rest)
