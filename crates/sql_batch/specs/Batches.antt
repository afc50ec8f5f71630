-- Statements that were run, one after another.
--     bound_text      the text of a statement, and the values of its parameters
--     RunAll      these statements were run
--     RunInOne, IsBehind      so in one transaction, which leaves this database; which leaves these trees
use Rattle.std.specs.Prelude.{◌≡◌, ℕ, true, List, [], ◌∷◌, Ok}
use Rattle.sqlite.specs.Store.{Ghosts}
use Rattle.sqlite.specs.Tree.{Trees}
use Rattle.sqlite.specs.Order.{Row}
use Rattle.sqlite.specs.Values.{bound}
use Rattle.sqlite.specs.Effect.{Database}
use Rattle.sqlite.specs.State.{Executes}
use Rattle.sqlite.specs.Held.{Held, state}
use Rattle.sql_batch.specs.declared.batch.BoundStatement.{BoundStatement}

-- the text of a statement, and the values of its parameters
abbrev pub bound_text : BoundStatement → List ℕ × Row
bound_text b = (b.statement.now.text, bound b.values.items)

-- These statements were run on a connection, one after another, each with success.
abbrev pub RunAll : {S : Type 0} → Ghosts S → List (List ℕ × Row) → Held S → Held S → Type 0
RunAll g [] old new = new ≡ old
RunAll g (bound ∷ rest) old new =
    (mid : Held _) × (count : ℕ) × Executes bound.0 bound.1 (state g old) (state g mid) (Ok count) × RunAll g rest mid new

-- They were run in one transaction, which leaves this database.
pub record RunInOne {S : Type 0} (g : Ghosts S) (statements : List (List ℕ × Row)) (old : Held S) (db : Database) : Type 0 where
  pub last : Held S
  pub ran : RunAll g statements (record old { in_transaction = true }) last
  pub is : db ≡ (state g last).now

-- These are the trees of a database that they leave.
abbrev pub IsBehind : {S : Type 0} → Ghosts S → List (List ℕ × Row) → Held S → Trees → Type 0
IsBehind g statements old trees = (db : Database) × RunInOne g statements old db × (trees ≡ db.trees)
