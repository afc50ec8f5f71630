use Rattle.std.proofs.Common.{rules, arith, ◌≡◌, ℕ, length, refl, sym, subst}
use Rattle.model.specs.Rows.{Schema}
use Rattle.table_locks.specs.Closing.{AreMoved}
use Rattle.table_locks.specs.ClosingLemmas.{moved_first, moved_all}
use Rattle.table_locks.specs.Starts.{AreKnown}
use Rattle.table_locks.proofs.closing.gather.Goals as goal

pub loop-lock-init : goal.loop-lock-init
loop-lock-init g c =
    let schema = g.N.StoreNames.schema in
    let start = g.N.StoreNames.start in
    let rows = c.args.all.rows in
    let long = c.requires.locks in
    record {
      locks = omega (arith, long);
      keys = c.requires.keys;
      book = refl;
      moved = λ commits are.
          subst (λ (n : ℕ). AreMoved schema start commits n rows) (sym long)
          (moved_first schema start c.args.book commits are rows
          (subst (λ (keys : Schema). AreKnown keys rows) c.requires.keys c.recall_invariant.ensures.known) c.requires.known);
    }

pub returns-clause-rows : goal.returns-clause-rows
returns-clause-rows g c commits are =
    let l = c.loop-lock in
    let none : length l.locks.items ≡ 0 = search rules in
    moved_all g.N.StoreNames.schema g.N.StoreNames.start c.args.book commits are l.all.rows
    (subst (λ (n : ℕ). AreMoved g.N.StoreNames.schema g.N.StoreNames.start commits n l.all.rows) none (l.invariant.moved commits are))
