use Rattle.std.proofs.Common.{◌≡◌, drop}
use Rattle.std.specs.List.{fold}
use Rattle.model.specs.HasherInput.{key_writes}
use Rattle.indexes.specs.Columns.{present}
use Rattle.indexes.proofs.sought.hash_row.Given as goal

-- the values that are left lead to where all of them lead
abbrev pub invariant-loop-column : goal.invariant-loop-column
invariant-loop-column g l = fold g.S.Hasher.write l.state (key_writes (present (drop l.column-index l.columns) l.row)) ≡ fold g.S.Hasher.write l.fn.state (key_writes (present l.columns l.row))
