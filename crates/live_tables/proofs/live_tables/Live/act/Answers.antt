use Rattle.std.proofs.Common.{rules, ◌≡◌, sym, subst}
use Rattle.std.specs.Prelude.{Result, Ok, Err}
use Rattle.live_tables.specs.declared.answers.Acted as acted_type
use Rattle.live_tables.specs.declared.answers.EngineFault.{EngineFault}
use Rattle.live_tables.specs.declared.answers.Verdict.{Verdict}
use Rattle.live_tables.specs.declared.answers.Verdict.TheVariants.{Clashes}
use Rattle.live_tables.specs.Tried.{HasTried, HasActed}
use Rattle.live_tables.proofs.Refusals.{runs_here, refused_as_tried, acted_as_tried, stopped_as_tried}
use Rattle.live_tables.proofs.live_tables.Live.act.Goals as goal

pub returns-in_err-acted : goal.returns-in_err-acted
returns-in_err-acted c =
    let same : c.from_residual.result ≡ Err c.in_err-acted.field-0.0 = search rules in
    subst (λ (came : Result acted_type.Acted EngineFault). HasActed c.args.self.now c.try_change.new.self c.args.xid c.args.sub c.args.c.now came) (sym same)
    (refused_as_tried c.args.self.now c.try_change.new.self c.args.xid c.args.sub c.args.c.now c.in_err-acted.field-0.0 c.in_err-acted.ensures)

pub returns-in-Acted : goal.returns-in-Acted
returns-in-Acted c =
    acted_as_tried c.args.self.now c.try_change.new.self c.args.xid c.args.sub c.args.c.now c.in-Acted.acted
    (subst (λ (v : Verdict). HasTried c.args.self.now c.try_change.new.self c.args.xid c.args.sub c.args.c.now (Ok v)) c.in-Acted.is c.in_ok-acted.ensures)

-- ---- it clashes

module _ (c : goal.After-stop_by_clash-arg-1) where
  clashes : HasTried c.args.self.now c.try_change.new.self c.args.xid c.args.sub c.args.c.now (Ok (Clashes c.in-Clashes.clash))
  clashes = subst (λ (v : Verdict). HasTried c.args.self.now c.try_change.new.self c.args.xid c.args.sub c.args.c.now (Ok v)) c.in-Clashes.is c.in_ok-acted.ensures

pub stop_by_clash-requires-clause-tied : goal.stop_by_clash-requires-clause-tied
stop_by_clash-requires-clause-tied c = let (w, o, tied, is) = c.requires.tied in (w, o, (clashes c).tied w o tied is, is)

pub stop_by_clash-requires-clause-running : goal.stop_by_clash-requires-clause-running
stop_by_clash-requires-clause-running c =
    let (w, o, tied, is) = c.requires.tied in
    runs_here w c.try_change.new.self ((clashes c).tied w o tied is) ((clashes c).tries w o tied is).0

pub returns-in-Clashes : goal.returns-in-Clashes
returns-in-Clashes c =
    stopped_as_tried c.args.self.now c.try_change.new.self c.stop_by_clash.new.self c.args.xid c.args.sub c.args.c.now c.in-Clashes.clash c.stop_by_clash.result
    (subst (λ (v : Verdict). HasTried c.args.self.now c.try_change.new.self c.args.xid c.args.sub c.args.c.now (Ok v)) c.in-Clashes.is c.in_ok-acted.ensures)
    c.stop_by_clash.ensures
