use Rattle.std.proofs.Common.{◌≡◌, ℕ, true, List, Some, refl, sym, ap, subst, ◌∙◌}
use Rattle.std.specs.Prelude.{option_map}
use Rattle.std.specs.Ordering.{nat_cmp}
use Rattle.std.specs.BTreeMap as tree
use Rattle.std.specs.BTreeMap.{btree_map_len}
use Rattle.model.specs.declared.change.Change.{Change}
use Rattle.model.specs.ValidLemmas.{not_none}
use Rattle.undo.specs.LogOf.{IsLogOf}
use Rattle.model.specs.Survivors.{changes_of}
use Rattle.world.specs.World.{World}
use Rattle.live_tables.specs.declared.live_tables.Live.{Live}
use Rattle.live_tables.specs.declared.transaction.OpenTransaction.{OpenTransaction}
use Rattle.live_tables.specs.KeptLemmas.{log_of_work}
use Rattle.live_tables.specs.Represents.{Represents}
use Rattle.live_tables.specs.ByHoldsLemmas.{by_holds, as_made, open_tells}
use Rattle.live_tables.specs.LoneLemmas.{would, stands, nobody_else, none_open}
use Rattle.live_tables.specs.MadeHoldsLemmas.{tied_made}
use Rattle.live_tables.specs.ShutLemmas.{open_there, none_left}
use Rattle.live_tables.proofs.live_tables.Live.make.Goals as goal

pub returns-then-self-clause-ok : goal.returns-then-self-clause-ok
returns-then-self-clause-ok c = λ w tied. by_holds w c.args.self.now tied c.if-self.true

-- some transaction is open, so the map isn't empty
pub unreachable-requires : goal.unreachable-requires
unreachable-requires c =
    let (w, xid, o, tied, is) = c.requires in
    not_none o (sym (none_open w c.args.self.now tied (none_left (btree_map_len c.args.self.now.transactions) c.in_default.ensures.variant.1) xid) ∙ is)

pub make_holds-requires-clause-names : goal.make_holds-requires-clause-names
make_holds-requires-clause-names c =
    let (w, xid, o, tied, is) = c.requires in
    (tied.lone c.if-self.false).named c.in-Some.xid.now c.in-Some.transaction.now.record (ap (option_map (λ (k : OpenTransaction). k.record)) c.in-Some.ensures.value)

-- its inverses are the log of its changes
log_there : (l : Live) (w : World) → Represents w l → (xid : ℕ) (kept : OpenTransaction) → tree.get nat_cmp l.transactions xid ≡ Some kept
    → IsLogOf l.tables.schema w.committed (changes_of kept.record.survivors) kept.record.log.inverses
log_there l w tied xid kept at =
    let (o, is) = open_there w l tied xid kept at in
    let tells = open_tells w l tied xid o is kept at in
    subst (λ (cs : List Change). IsLogOf l.tables.schema w.committed cs kept.record.log.inverses) (sym (ap changes_of tells.survives))
    (log_of_work l.tables.schema w xid o kept.record tells)

pub make_holds-requires-clause-log : goal.make_holds-requires-clause-log
make_holds-requires-clause-log c =
    let (w, xid, o, tied, is) = c.requires in
    (w.committed, log_there c.args.self.now w tied c.in-Some.xid.now c.in-Some.transaction.now c.in-Some.ensures.value)

pub returns-clause-ok : goal.returns-clause-ok
returns-clause-ok c = λ w tied.
    let l = c.args.self.now in
    let alone = c.if-self.false in
    let xid = c.in-Some.xid.now in
    let kept = c.in-Some.transaction.now in
    let (o, is) = open_there w l tied xid kept c.in-Some.ensures.value in
    let found = ap (option_map (λ (k : OpenTransaction). k.record)) c.in-Some.ensures.value in
    as_made w (record l { holds = c.in_ok-holds.holds }) (record l { holds = c.in_ok-holds.holds; made = true })
    (tied_made w (record l { holds = would w l tied alone xid o is }) (stands w l tied alone xid o is) xid o is (nobody_else w l tied alone xid o is)
    kept.record found ((tied.lone alone).unmarked xid kept.record found) c.in_ok-holds.holds
    (c.in_ok-holds.ensures.made w.committed (log_there l w tied xid kept c.in-Some.ensures.value)) c.in_ok-holds.ensures.alone) refl
