use Rattle.std.proofs.Common.{◌≡◌, ℕ, Bool, false, List, Option, [], refl, sym, ap, subst, ◌∙◌}
use Rattle.std.specs.Prelude.{Result, Ok, Err, MatchResult}
use Rattle.std.specs.Io.KnownBytes.{Consumes}
use Rattle.std.proofs.KnownBytes.{Consumes-nil}
use Rattle.frames.specs.declared.fault.FrameFault.{FrameFault}
use Rattle.frames.specs.declared.fault.FrameFault.TheVariants as frames
use Rattle.model.specs.Rows.{Rows}
use Rattle.frames.specs.Stream.{Ending}
use Rattle.frames.specs.Reads.{Reads, AnswersFault, fault_of, AtEndOf}
use Rattle.session.specs.State.{Setting}
use Rattle.run.specs.Handler.{HandlesKept, IsRunOver}
use Rattle.run.specs.Progress.{start_progress}
use Rattle.run.proofs.Reading.{SoFar, piece_read, read_failed, over_by_fault, over_inside, over_at_edge, come_none, none_kept, broken_by, failed_now, ends_as}
use Rattle.run.proofs.stream.read_all.Given.{Over}
use Rattle.run.proofs.stream.read_all.Goals as goal
use Rattle.run.proofs.stream.read_all.Goals.{After-handle_kept, After-finish}

-- what a read that ends the input tells
abbrev EndsAs : Ending → Option (List ℕ) → Result Bool FrameFault → Type 0
EndsAs ending unread result = MatchResult result (λ more. more ≡ false → AtEndOf ending unread) (λ _. AtEndOf ending unread)

pub pulls-init : goal.pulls-init
pulls-init g c = record {
  under_way = c.requires;
  unbroken = ap (λ k. fault_of k.ending) c.new-frames.ensures.empty;
  none = ap (λ k. k.items) c.new-frames.ensures.empty;
  come = λ h rows at. ([], [], Consumes-nil c.args.devices.now.unread, come_none h (g.H.Handler.at h rows) (g.H.Handler.ended h rows) c.args.devices.now c.args.handler.now at, c.new-frames.ensures.read);
}

pub returns-then-is_failed_read : goal.returns-then-is_failed_read
returns-then-is_failed_read g c = λ h rows at.
    let device = c.is_failed_read.ensures.failed c.if-is_failed_read.true in
    read_failed h (g.H.Handler.at h rows) (g.H.Handler.ended h rows) c.args.devices.now _ _ c.pulls.handler c.pulls.frames c.pull-pulled.new.self
    (subst (λ d. SoFar h (g.H.Handler.at h rows) (g.H.Handler.ended h rows) c.args.devices.now d c.pulls.handler c.pulls.frames) (sym c.devices.view_is) (c.pulls.invariant.come h rows at)) c.pull-pulled.ensures.read
    (c.pull-pulled.ensures.kept device ∙ c.pulls.invariant.none)
    (broken_by c.pull-pulled.new.self.ending frames.Device (subst (λ r. AnswersFault r (fault_of c.pull-pulled.new.self.ending)) device c.pull-pulled.ensures.fault))
    (failed_now c.pulls.frames.ending _ c.pulls.invariant.unbroken (c.pull-pulled.ensures.device device)) refl refl refl

-- the bytes with the piece that was read, and how what is kept of their items was handled
piece_handled : (g : Over) (c : After-handle_kept g) (h : Setting) (rows : Rows) → g.H.Handler.at h rows c.args.handler.now start_progress
    → (bytes : List ℕ) × Consumes c.args.devices.now.unread c.handle_kept.new.devices.unread bytes
    × HandlesKept h (g.H.Handler.at h rows) (g.H.Handler.ended h rows) c.args.devices.now c.handle_kept.new.devices c.handle_kept.new.handler bytes c.handle_kept.new.frames c.handle_kept.result
piece_handled g c h rows at =
    let so = piece_read h (g.H.Handler.at h rows) (g.H.Handler.ended h rows) c.args.devices.now _ _ c.pulls.handler c.pulls.frames c.pull-pulled.new.self
    (subst (λ d. SoFar h (g.H.Handler.at h rows) (g.H.Handler.ended h rows) c.args.devices.now d c.pulls.handler c.pulls.frames) (sym c.devices.view_is) (c.pulls.invariant.come h rows at)) c.pull-pulled.ensures.read
    (c.pull-pulled.ensures.works (c.is_failed_read.ensures.other c.if-is_failed_read.false)) refl refl refl in
    (so.0, subst (λ u. Consumes c.args.devices.now.unread u so.0) (sym c.handle_kept.ensures.unread) so.2, c.handle_kept.ensures.kept h rows c.args.devices.now so.0 so.1 so.3 so.4)

-- all of them were handled, and none is kept
all_handled : (g : Over) (c : After-handle_kept g) (u : Unit {0}) → c.handle_kept.result ≡ Ok u → (h : Setting) (rows : Rows) → g.H.Handler.at h rows c.args.handler.now start_progress
    → (come : SoFar h (g.H.Handler.at h rows) (g.H.Handler.ended h rows) c.args.devices.now c.handle_kept.new.devices c.handle_kept.new.handler c.handle_kept.new.frames)
    × Reads come.0 come.1 c.pull-pulled.new.self.ending
all_handled g c u ok h rows at =
    let piece = piece_handled g c h rows at in
    let kept = simp ok at piece.2 in (
      (piece.0, kept.0, piece.1, kept.1, kept.2),
      none_kept piece.0 kept.0 c.handle_kept.new.frames c.pull-pulled.new.self.ending kept.2 (rw ok at c.handle_kept.ensures.none) c.handle_kept.ensures.ending,
    )

-- the reader asks for no more
asks_no_more : (g : Over) (c : After-finish g) → AtEndOf c.pull-pulled.new.self.ending c.handle_kept.new.devices.unread
asks_no_more g c =
    subst (AtEndOf c.pull-pulled.new.self.ending) (sym c.handle_kept.ensures.unread)
    (subst (EndsAs c.pull-pulled.new.self.ending (g.R.Source.remaining c.pull-pulled.new.r)) c.in_ok-pulled.was c.pull-pulled.ensures.end c.if-not-branch.true)

pub returns-in_err-handle_kept : goal.returns-in_err-handle_kept
returns-in_err-handle_kept g c = λ h rows at.
    let piece = piece_handled g (goal.at.returns-in_err-handle_kept g c).After-handle_kept h rows at in
    let over : Consumes c.args.devices.now.unread c.handle_kept.new.devices.unread piece.0
    → IsRunOver h (g.H.Handler.at h rows) (g.H.Handler.ended h rows) c.args.devices.now c.handle_kept.new.devices c.handle_kept.new.handler c.in_err-handle_kept.field-0.0 =
    simp c.in_err-handle_kept.was at piece.2 in
    ends_as h (g.H.Handler.at h rows) (g.H.Handler.ended h rows) c.args.devices.now c.handle_kept.new.devices c.handle_kept.new.handler c.in_err-handle_kept.field-0.0 c.from_residual.result c.from_residual.ensures.1
    (over piece.1)

pub returns-in_err-pulled : goal.returns-in_err-pulled
returns-in_err-pulled g c = λ h rows at.
    let all = all_handled g (goal.at.returns-in_err-pulled g c).After-handle_kept _ c.in_ok-handle_kept.was h rows at in
    let come = all.0 in
    let f = c.in_err-pulled.field-0.0 in
    let broken = broken_by c.pull-pulled.new.self.ending f (subst (λ r. AnswersFault r (fault_of c.pull-pulled.new.self.ending)) c.in_err-pulled.was c.pull-pulled.ensures.fault) in
    ends_as h (g.H.Handler.at h rows) (g.H.Handler.ended h rows) c.args.devices.now c.handle_kept.new.devices c.handle_kept.new.handler _ c.from_residual-in_err-pulled.result c.from_residual-in_err-pulled.ensures.1
    (over_by_fault h (g.H.Handler.at h rows) (g.H.Handler.ended h rows) c.args.devices.now c.handle_kept.new.devices c.handle_kept.new.handler come.0 come.1 come.2 come.3 f (subst (Reads come.0 come.1) broken all.1)
    (λ device. c.is_failed_read.ensures.other c.if-is_failed_read.false (c.in_err-pulled.was ∙ ap Err device)))

pub returns-in_err-finish : goal.returns-in_err-finish
returns-in_err-finish g c = λ h rows at.
    let all = all_handled g (goal.at.returns-in_err-finish g c).After-handle_kept _ c.in_ok-handle_kept.was h rows at in
    let come = all.0 in
    ends_as h (g.H.Handler.at h rows) (g.H.Handler.ended h rows) c.args.devices.now c.handle_kept.new.devices c.handle_kept.new.handler _ c.from_residual-in_err-finish.result c.from_residual-in_err-finish.ensures.1
    (over_inside h (g.H.Handler.at h rows) (g.H.Handler.ended h rows) c.args.devices.now c.handle_kept.new.devices c.handle_kept.new.handler come.0 come.1 come.2 come.3 c.pull-pulled.new.self.ending c.in_err-finish.field-0.0 all.1
    (asks_no_more g (goal.at.returns-in_err-finish g c).After-finish) (subst (λ r. AnswersFault r (fault_of c.pull-pulled.new.self.ending)) c.in_ok-pulled.was c.pull-pulled.ensures.fault)
    (rw (← c.handle_kept.ensures.ending) c.in_err-finish.ensures.fault))

pub returns-then-not-branch : goal.returns-then-not-branch
returns-then-not-branch g c = λ h rows at.
    let all = all_handled g (goal.at.returns-then-not-branch g c).After-handle_kept _ c.in_ok-handle_kept.was h rows at in
    let come = all.0 in
    over_at_edge h (g.H.Handler.at h rows) (g.H.Handler.ended h rows) c.args.devices.now c.handle_kept.new.devices c.handle_kept.new.handler come.0 come.1 come.2 come.3 c.pull-pulled.new.self.ending all.1
    (asks_no_more g (goal.at.returns-then-not-branch g c).After-finish) (subst (λ r. AnswersFault r (fault_of c.pull-pulled.new.self.ending)) c.in_ok-pulled.was c.pull-pulled.ensures.fault)
    (rw (← c.handle_kept.ensures.ending) c.in_ok-finish.ensures.fault)

pub pulls-preserved : goal.pulls-preserved
pulls-preserved g c = record {
  under_way = c.in_ok-handle_kept.ensures.under_way;
  unbroken = ap fault_of c.handle_kept.ensures.ending ∙ (subst (λ r. AnswersFault r (fault_of c.pull-pulled.new.self.ending)) c.in_ok-pulled.was c.pull-pulled.ensures.fault);
  none = c.in_ok-handle_kept.ensures.none;
  come = λ h rows at. (all_handled g (goal.at.pulls-preserved g c).After-handle_kept _ c.in_ok-handle_kept.was h rows at).0;
}
