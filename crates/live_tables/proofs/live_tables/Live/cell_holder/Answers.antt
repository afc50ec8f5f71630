use Rattle.std.proofs.Common.{sym}
use Rattle.std.specs.BTreeMap as tree
use Rattle.model.specs.Footprint.{footprint}
use Rattle.live_tables.specs.StopLemmas.{IsApartFrom, none_less, cells_held_by, cells_free}
use Rattle.live_tables.proofs.live_tables.Live.cell_holder.Goals as goal

pub returns-then-has_cell_of-clause-held : goal.returns-then-has_cell_of-clause-held
returns-then-has_cell_of-clause-held c =
    let store = c.args.self.now in
    let (w, tied) = c.requires.tied in
    cells_held_by w store tied c.args.xid (footprint store.tables.schema store.tables.rows c.args.change.now) c.in-Some.holder.now c.if-holder-xid.true
    (sym c.if-has_cell_of.ensures)

pub returns-clause-free : goal.returns-clause-free
returns-clause-free c =
    let store = c.args.self.now in
    let cells = footprint store.tables.schema store.tables.rows c.args.change.now in
    let (w, tied) = c.requires.tied in
    cells_free w store tied c.args.xid cells
    (none_less (IsApartFrom store c.args.xid cells) (tree.keys store.transactions) c.loop-holder.holder-iterator c.loop-holder.invariant c.in-None.ensures.steps.0)
