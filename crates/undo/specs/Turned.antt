-- A list of inverses that was put back, and what settles the rows that went.
--     AreTurned      each inverse became one that puts the row that went there again
use Rattle.std.specs.Prelude.{List, [], ◌∷◌, map}
use Rattle.model.specs.Rows.{Rows}
use Rattle.model.specs.Effect.{all_back}
use Rattle.change.specs.declared.inverse.Inverse.{Inverse}
use Rattle.change.specs.Inverse.{edits_of}
use Rattle.change.specs.Turned.{IsTurned}

-- each of the first became the one of the second at its index, on the rows that those after it leave
abbrev pub AreTurned : Rows → List Inverse → List Inverse → Type 0
AreTurned rows [] [] = Unit {0}
AreTurned rows [] (j ∷ js) = ⊥
AreTurned rows (i ∷ is) [] = ⊥
AreTurned rows (i ∷ is) (j ∷ js) = IsTurned (all_back rows (map edits_of is)) i j × AreTurned rows is js
