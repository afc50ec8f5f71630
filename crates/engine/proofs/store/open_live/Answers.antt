use Rattle.std.proofs.Common.{◌≡◌, refl, sym, subst, ◌∙◌, ℕ, ◌<◌, ◌≤◌, None, Result, Ok, Err, arith}
use Rattle.std.specs.FinMap as finite
use Rattle.std.specs.Result.{IsErrAnd}
use Rattle.std.specs.BTreeMap.{btree_map_len}
use Rattle.world.specs.World.{World}
use Rattle.world.specs.Steps.{Opens}
use Rattle.model.specs.Limits.{most_open}
use Rattle.live_tables.specs.declared.answers.EngineFault as fault_type
use Rattle.live_tables.specs.declared.answers.EngineFault.TheVariants.{OutOfMemory as NoMemory}
use Rattle.live_tables.specs.Answers.{told_fault, told_call, after_open}
use Rattle.engine.specs.StoreLemmas.{absent_there, runs_there}
use Rattle.engine.proofs.store.open_live.Goals as goal

-- a call that memory was refused leaves the world
no_memory : (w : World) (xid : ℕ) (r : Result (Unit {0}) fault_type.EngineFault) → IsErrAnd r (λ fault. fault ≡ NoMemory)
    → w.stopped ≡ None → finite.get w.opened xid ≡ None → finite.len w.opened < most_open
    → Opens w xid (told_call r) (after_open w xid (told_call r))
no_memory w xid (Ok u) is runs absent room = absurd is
no_memory w xid (Err fault) is runs absent room =
    subst (λ (f : fault_type.EngineFault). Opens w xid (Err (told_fault f)) w) (sym is) (runs, absent, room, refl)

fewer : (all kept count most : ℕ) → all ≡ kept → count ≡ kept → count < most → all < most
fewer all kept count most one two less = omega (arith, one, two, less)

as_many : (all kept count most : ℕ) → all ≡ kept → count ≡ kept → most ≤ count → most ≤ all
as_many all kept count most one two enough = omega (arith, one, two, enough)

pub returns-then-count-ge-MOST_OPEN-clause-opens :
    goal.returns-then-count-ge-MOST_OPEN-clause-opens
returns-then-count-ge-MOST_OPEN-clause-opens c w tied = (
  runs_there w c.args.live.now tied (sym c.is_some.ensures ∙ c.if-is_some.false),
  absent_there w c.args.live.now tied c.args.xid (sym c.contains_key.ensures ∙ c.if-contains_key.false),
  as_many (finite.len w.opened) (btree_map_len c.args.live.now.transactions) c.len-count.result most_open tied.count c.len-count.ensures.len c.if-count-ge-MOST_OPEN.true,
  refl,
)

pub returns-in_err-reserve-clause-opens : goal.returns-in_err-reserve-clause-opens
returns-in_err-reserve-clause-opens c w tied =
    no_memory w c.args.xid c.from_residual.result c.from_residual.ensures.1
    (runs_there w c.args.live.now tied (sym c.is_some.ensures ∙ c.if-is_some.false))
    (absent_there w c.args.live.now tied c.args.xid (sym c.contains_key.ensures ∙ c.if-contains_key.false))
    (fewer (finite.len w.opened) (btree_map_len c.args.live.now.transactions) c.len-count.result most_open tied.count c.len-count.ensures.len c.if-count-ge-MOST_OPEN.false)

pub returns-in_err-open-clause-opens : goal.returns-in_err-open-clause-opens
returns-in_err-open-clause-opens c w tied =
    no_memory w c.args.xid c.from_residual-in_err-open.result c.from_residual-in_err-open.ensures.1
    (runs_there w c.args.live.now tied (sym c.is_some.ensures ∙ c.if-is_some.false))
    (absent_there w c.args.live.now tied c.args.xid (sym c.contains_key.ensures ∙ c.if-contains_key.false))
    (fewer (finite.len w.opened) (btree_map_len c.args.live.now.transactions) c.len-count.result most_open tied.count c.len-count.ensures.len c.if-count-ge-MOST_OPEN.false)

pub returns-clause-opens : goal.returns-clause-opens
returns-clause-opens c w tied = (
  runs_there w c.args.live.now tied (sym c.is_some.ensures ∙ c.if-is_some.false),
  absent_there w c.args.live.now tied c.args.xid (sym c.contains_key.ensures ∙ c.if-contains_key.false),
  fewer (finite.len w.opened) (btree_map_len c.args.live.now.transactions) c.len-count.result most_open tied.count c.len-count.ensures.len c.if-count-ge-MOST_OPEN.false,
  refl,
)
