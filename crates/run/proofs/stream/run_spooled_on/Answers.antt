use Rattle.std.proofs.Common.{◌≡◌, [], refl, sym, ap, subst, ◌∙◌}
use Rattle.indexes.specs.Content.{Content}
use Rattle.session.specs.State.{Setting}
use Rattle.run.specs.Settings.{setting_of}
use Rattle.run.specs.Progress.{start_progress}
use Rattle.run.specs.Handler.{IsRunOver, end_of_result}
use Rattle.run.specs.Applier.{Represents, HasEnded}
use Rattle.run.proofs.Leaving.{is_run, unread_is_run}
use Rattle.run.proofs.stream.run_spooled_on.Goals as goal
use Rattle.run.proofs.stream.run_spooled_on.Goals.{in-Ok-read_all, in-Err-read_all}

pub read_all-requires : goal.read_all-requires
read_all-requires g c = (setting_of 0 c.args.config.now c.args.catalog.now, c.args.start.rows, [], start_progress, refl, c.in-Ok.ensures.at)

pub returns-in-Err : goal.returns-in-Err
returns-in-Err g c =
    let tables : c.unread.result.tables ≡ c.args.start = c.unread.ensures.tables ∙ c.in-Err.ensures.err in
    unread_is_run (setting_of 0 c.args.config.now c.args.catalog.now) c.args.start.rows c.args.devices.now c.unread.result (ap (λ (t : Content). t.rows) tables)
    (ap (λ (t : Content). t.schema) tables ∙ c.requires) c.unread.ensures.journal c.unread.ensures.position c.unread.ensures.end

pub returns : goal.returns
returns g c =
    let s : Setting = setting_of 0 c.args.config.now c.args.catalog.now in
    let same : end_of_result c.read_all.result ≡ c.leave.result.end = elim c.match-read_all.branch [
      | in-Ok-read_all w ↦ ap end_of_result w.in-Ok-read_all.is ∙ sym w.end-is ∙ sym c.leave.ensures.end
      | in-Err-read_all w ↦ ap end_of_result w.in-Err-read_all.is ∙ sym w.end-is ∙ sym c.leave.ensures.end
    ] in
    is_run s c.args.start.rows c.args.devices.now c.read_all.new.devices c.read_all.new.handler c.leave.result
    (subst (IsRunOver s (Represents s c.args.start.rows) (HasEnded s c.args.start.rows) c.args.devices.now c.read_all.new.devices c.read_all.new.handler) same (c.read_all.ensures s c.args.start.rows c.in-Ok.ensures.at))
    c.leave.ensures.tables c.leave.ensures.schema c.leave.ensures.journal c.leave.ensures.position
