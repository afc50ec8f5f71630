-- Statements that were run, one after another.
--     run_next      one more
use Rattle.std.proofs.Common.{◌≡◌, ℕ, zero, suc, ◌<◌, List, [], ◌∷◌, length, get_or, take, map, Ok, refl, subst, arith}
use Rattle.sqlite.specs.Store.{Ghosts}
use Rattle.sqlite.specs.State.{Executes}
use Rattle.sqlite.specs.Held.{Held, state}
use Rattle.sql_batch.specs.declared.batch.BoundStatement.{BoundStatement}
use Rattle.sql_batch.specs.Batches.{RunAll, bound_text}

pub run_next : {S : Type 0} (g : Ghosts S) (b : BoundStatement) (all : List BoundStatement) (index : ℕ) → index < length all → b ≡ get_or all index b
    → (old mid new : Held S) (count : ℕ) → RunAll g (map bound_text (take index all)) old mid → Executes (bound_text b).0 (bound_text b).1 (state g mid) (state g new) (Ok count)
    → RunAll g (map bound_text (take (suc index) all)) old new
run_next g b [] index below is old mid new count ran one = absurd (omega arith)
run_next g b (f ∷ rest) zero below is old mid new count ran one = (
  new,
  count,
  subst (λ (s : BoundStatement). Executes (bound_text s).0 (bound_text s).1 (state g old) (state g new) (Ok count)) is
      (subst (λ (h : Held _). Executes (bound_text b).0 (bound_text b).1 (state g h) (state g new) (Ok count)) ran one),
  refl,
)
run_next g b (f ∷ rest) (suc index) below is old mid new count (m, n, first, ran) one =
    (m, n, first, run_next g b rest index (omega arith) is m mid new count ran one)
