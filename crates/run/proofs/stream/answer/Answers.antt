use mir.Syntax.{w64}
use mir.Val.{SFits}
use Rattle.std.proofs.lemmas.Int.{to_z-of_z}
use Rattle.std.proofs.Common.{rules, ◌≡◌, List, true, refl, sym, ap, subst}
use Rattle.std.specs.Prelude.{Err, max}
use Rattle.model.specs.Rows.{Rows}
use Rattle.frames.specs.declared.item.CopyItem.{CopyItem}
use Rattle.session.specs.State.{Setting}
use Rattle.run.specs.Devices.{DeviceState}
use Rattle.run.specs.Handler.{IsUnderWay, HasCome, HasHandled}
use Rattle.run.proofs.Running.{under_way, come_on, come_told, stopped, unsent}
use Rattle.run.proofs.stream.answer.Given.{Over}
use Rattle.run.proofs.stream.answer.Goals as goal
use Rattle.run.proofs.stream.answer.Goals.{In_ok-handle, After-send_status}

pub returns-in_err-handle-clause-answer : goal.returns-in_err-handle-clause-answer
returns-in_err-handle-clause-answer g c = λ h rows old handled come.
    stopped h (g.H.Handler.at h rows) (g.H.Handler.ended h rows) old c.args.devices.now c.args.handler.now c.handle.new.self handled c.args.item c.from_residual.result c.in_err-handle.field-0.0 come
    (c.in_err-handle.ensures h rows handled come.progress come.lawful come.at) c.from_residual.ensures.1

-- the item was handled, and an update is due, of these numbers
due : (g : Over) (c : After-send_status g) (h : Setting) (rows : Rows) (old mid : DeviceState) (handled : List CopyItem) → mid ≡ c.args.devices.now
    → HasCome h (g.H.Handler.at h rows) (g.H.Handler.ended h rows) old c.args.devices.now c.args.handler.now handled
    → (come : HasCome h (g.H.Handler.at h rows) (g.H.Handler.ended h rows) old mid c.args.handler.now handled)
    × (done : HasHandled h (g.H.Handler.at h rows) (g.H.Handler.ended h rows) c.handle.new.self come.progress c.args.item true)
    × (c.written.result ≡ max done.progress.seen done.progress.state.position)
    × (c.position.result ≡ done.progress.state.position)
    × (c.position-then-branch.result ≡ done.progress.state.position)
due g c h rows old mid handled same come =
    let at = g.H.Handler.at h rows in
    let ended = g.H.Handler.ended h rows in
    let came = subst (λ d. HasCome h at ended old d c.args.handler.now handled) (sym same) come in
    let done = subst (HasHandled h at ended c.handle.new.self came.progress c.args.item) c.if-branch.true (c.in_ok-handle.ensures h rows handled came.progress came.lawful came.at) in
    (came, done, c.written.ensures h rows done.progress done.at, c.position.ensures h rows done.progress done.at, c.position-then-branch.ensures h rows done.progress done.at)

pub returns-in_err-send_status-clause-answer : goal.returns-in_err-send_status-clause-answer
returns-in_err-send_status-clause-answer g c = λ h rows old handled come.
    let fits : SFits w64 c.micros.result = search rules in
    let is = due g (goal.at.returns-in_err-send_status-clause-answer g c).After-send_status h rows old _ handled c.devices.view_is come in
    unsent h (g.H.Handler.at h rows) (g.H.Handler.ended h rows) old _ _ c.args.handler.now c.handle.new.self handled c.args.item c.micros.result is.0 is.1 c.micros.ensures refl c.written.result c.position.result c.position-then-branch.result c.from_residual-in_err-send_status.result c.in_err-send_status.field-0.0
    c.in_err-send_status.ensures.only (λ e. c.in_err-send_status.ensures.device (ap Err e)) (λ e. (c.in_err-send_status.ensures.works (λ d. cc), c.in_err-send_status.ensures.memory (ap Err e))) (λ e. simp to_z-of_z at (c.in_err-send_status.ensures.part (ap Err e)))
    is.2 is.3 is.4 c.from_residual-in_err-send_status.ensures.1

-- it goes on behind the item
goes_on : (g : Over) (c : In_ok-handle g) → IsUnderWay g.H.Handler.at c.handle.new.self
goes_on g c =
    let r = c.requires in
    under_way r.0 r.1 (g.H.Handler.at) (g.H.Handler.ended) r.2 r.3 c.handle.new.self c.args.item c.in_ok-handle.field-0 r.4 (c.in_ok-handle.ensures r.0 r.1 r.2 r.3 r.4 r.5)

pub returns-in_ok-send_status-clause-under_way : goal.returns-in_ok-send_status-clause-under_way
returns-in_ok-send_status-clause-under_way g c = goes_on g (goal.at.returns-in_ok-send_status-clause-under_way g c).In_ok-handle

pub returns-else-branch-clause-under_way : goal.returns-else-branch-clause-under_way
returns-else-branch-clause-under_way g c = goes_on g (goal.at.returns-else-branch-clause-under_way g c).In_ok-handle

pub returns-else-branch-clause-answer : goal.returns-else-branch-clause-answer
returns-else-branch-clause-answer g c = λ h rows old handled come.
    let at = g.H.Handler.at h rows in
    let ended = g.H.Handler.ended h rows in
    let done = subst (HasHandled h at ended c.handle.new.self come.progress c.args.item) c.if-branch.false (c.in_ok-handle.ensures h rows handled come.progress come.lawful come.at) in
    come_on h at ended old c.args.devices.now c.args.handler.now c.handle.new.self handled c.args.item come done

pub returns-in_ok-send_status-clause-answer : goal.returns-in_ok-send_status-clause-answer
returns-in_ok-send_status-clause-answer g c = λ h rows old handled come.
    let fits : SFits w64 c.micros.result = search rules in
    let is = due g (goal.at.returns-in_ok-send_status-clause-answer g c).After-send_status h rows old _ handled c.devices.view_is come in
    come_told h (g.H.Handler.at h rows) (g.H.Handler.ended h rows) old _ _ c.args.handler.now c.handle.new.self handled c.args.item c.micros.result c.written.result c.position.result c.position-then-branch.result is.0 is.1 c.micros.ensures
    is.2 is.3 is.4 (simp to_z-of_z at c.in_ok-send_status.ensures.ok) (c.in_ok-send_status.ensures.works (λ e. cc)) refl
