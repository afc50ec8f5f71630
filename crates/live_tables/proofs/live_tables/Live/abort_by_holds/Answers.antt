use Rattle.std.proofs.Common.{[], refl, sym, ◌∙◌}
use Rattle.keyholds.specs.Holds.{holds_of, cells_held}
use Rattle.world.specs.Steps.{aborted_with}
use Rattle.live_tables.specs.declared.live_tables.Live.{Live}
use Rattle.live_tables.specs.CellLemmas.{before_image_is_held}
use Rattle.live_tables.specs.BeforeImages.{IsStoodAt}
use Rattle.live_tables.specs.ReleasedLemmas.{are_released, lets_go_free, tied_released}
use Rattle.live_tables.specs.Released.{IsLetGo}
use Rattle.live_tables.specs.BasicLemmas.{never_missing, puts_by_update, its_can}
use Rattle.live_tables.specs.EndedLemmas.{tied_aborted}
use Rattle.live_tables.proofs.live_tables.Live.abort_by_holds.Goals as goal

pub unreachable-requires : goal.unreachable-requires
unreachable-requires c = never_missing c.args.self.now c.args.xid c.requires c.in_default.ensures.value

pub undo_all-requires : goal.undo_all-requires
undo_all-requires c =
    let (w, o, tied, is) = c.requires in
    its_can w c.args.self.now tied c.args.xid o is c.in-Some.transaction (sym c.in-Some.ensures.value)

pub returns-clause-tied : goal.returns-clause-tied
returns-clause-tied c =
    let store = c.args.self.now in
    let undone = c.undo_all.ensures in
    let let_go = c.let_go.ensures in
    let held : IsStoodAt (holds_of store.holds) c.args.xid [] (holds_of c.release_all.new.self) =
    record { here = c.release_all.ensures.own; beside = λ other differs. c.release_all.ensures.others other differs ∙ let_go.others other differs } in
    λ w o tied is.
    let n : Live = record { tables = c.undo_all.new.t; holds = c.release_all.new.self; made = store.made; transactions = c.remove.new.self; stopped = store.stopped } in
    tied_released (aborted_with w c.args.xid) n
    (tied_aborted w store tied c.args.xid o is c.in-Some.transaction (sym c.in-Some.ensures.value) n
    (puts_by_update c.args.xid _ store.transactions c.remove.new.self c.in-Some.ensures.updates) c.in-Some.ensures.len held refl
    (record { schema_is = undone.schema; rows = undone.rows; room = undone.room }))
    (IsLetGo 0 (cells_held store.holds c.args.xid)) c.let_go.new.tables let_go.released let_go.room
    (lets_go_free w store tied c.args.xid o is 0 (cells_held c.release_all.new.self) (before_image_is_held.gone (holds_of store.holds) c.args.xid (holds_of c.release_all.new.self) held))

pub returns-clause-released : goal.returns-clause-released
returns-clause-released c = are_released 0 (cells_held c.args.self.now.holds c.args.xid) c.undo_all.new.t c.let_go.new.tables c.let_go.ensures.released

pub returns-clause-schema : goal.returns-clause-schema
returns-clause-schema c = c.let_go.ensures.released.schema ∙ c.undo_all.ensures.schema
