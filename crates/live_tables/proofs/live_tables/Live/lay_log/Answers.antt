use Rattle.std.proofs.Common.{sym, ap, ◌∙◌, true≢false}
use Rattle.std.specs.Prelude.{is_some}
use Rattle.live_tables.proofs.LogSteps.{log_there, log_beside}
use Rattle.live_tables.proofs.Stands.{on_ok}
use Rattle.live_tables.proofs.live_tables.Live.lay_log.Goals as goal

pub unreachable-requires : goal.unreachable-requires
unreachable-requires c =
    let (w, tied) = c.requires.tied in
    true≢false (sym (log_there w c.args.self.now tied c.args.xid c.args.table c.requires.whole) ∙ ap is_some (sym c.in_default.ensures.value))

pub returns : goal.returns
returns c =
    on_ok c.lay_under.result _ _ c.lay_under.ensures (λ laid w tied.
    log_beside w c.args.self.now tied c.args.xid c.args.table c.requires.whole c.in-Some.transaction.now (sym c.in-Some.ensures.value) c.args.known.now c.lay_under.new.known laid)
