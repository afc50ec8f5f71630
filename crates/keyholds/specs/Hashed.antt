-- What a hasher is fed of a cell: the cell's own hash.
use Rattle.std.specs.Prelude.{◌≡◌, ℕ, List, IsTrue, ◌==◌}
use Rattle.std.proofs.Common.{◌∙◌, ap}
use Rattle.std.specs.Hash as fed
use Rattle.std.specs.Ordering.{eq_by_cmp}
use Rattle.std.proofs.lemmas.Map.Views.{tells_apart, exact_unsigned_eq}
use Rattle.model.specs.declared.cell.Cell.{Cell}
use Rattle.model.specs.CellOrder.{cell_cmp, cell_cmp_exact}
use Rattle.model.specs.Hashing.{hash_cell}

-- of a hash, its eight bytes
abbrev pub hash_writes : ℕ → List (List ℕ)
hash_writes hash = fed.u64 hash

-- of a cell, those of its hash
abbrev pub cell_writes : Cell → List (List ℕ)
cell_writes cell = hash_writes (hash_cell cell)

-- hashes that are one, and cells that are, are fed alike
pub same_hashes : (x y : ℕ) → IsTrue (x == y) → hash_writes x ≡ hash_writes y
same_hashes x y e = ap (λ hash. hash_writes hash) (exact_unsigned_eq x y e)

pub same_writes : (x y : Cell) → IsTrue (eq_by_cmp cell_cmp x y) → cell_writes x ≡ cell_writes y
same_writes x y e = ap (λ cell. cell_writes cell) (tells_apart cell_cmp_exact x y e)

-- and a cell that is looked for as the one that it is
pub asked_writes : (hash : ℕ) (sought : Cell) → hash ≡ hash_cell sought → (cell : Cell) → IsTrue (eq_by_cmp cell_cmp sought cell) → hash_writes hash ≡ cell_writes cell
asked_writes hash sought is cell e = ap (λ n. hash_writes n) is ∙ same_writes sought cell e
