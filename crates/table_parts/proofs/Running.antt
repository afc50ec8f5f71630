-- Nothing stops a part.
--     opens_runs, tries_runs, back_runs, commits_runs, aborts_runs      a call leaves what had stopped a world
--     never_stopped      a change that is tried is refused for memory alone
use Rattle.std.proofs.Common.{◌≡◌, ℕ, None, refl, sym, ap, ◌∙◌}
use Rattle.std.specs.Prelude.{Result, Ok, Err, IfErr, IsSome, is_some, false, true}
use Rattle.model.specs.declared.change.Change.{Change}
use Rattle.model.specs.declared.item.CommitInfo.{CommitInfo}
use Rattle.model.specs.declared.item.Item.TheVariants.{BackTo}
use Rattle.model.specs.Rows.{Schema}
use Rattle.world.specs.World.{Opened, Stop, World}
use Rattle.world.specs.Steps.{Fault, AlreadyOpen as WasOpen, TooManyOpen as WereTooMany, Stopped as WasStopped, OutOfMemory as HadNoMemory, Opens, GoesBack, Commits, Aborts}
use Rattle.live_tables.specs.declared.answers.Acted.TheVariants.{Done, Skipped, Held}
use Rattle.live_tables.specs.declared.answers.EngineFault.{EngineFault}
use Rattle.live_tables.specs.declared.answers.EngineFault.TheVariants.{AlreadyOpen, TooManyOpen, Clash, Stopped, OutOfMemory}
use Rattle.live_tables.specs.declared.answers.Verdict.{Verdict}
use Rattle.live_tables.specs.declared.answers.Verdict.TheVariants.{Acted, Clashes}
use Rattle.live_tables.specs.Answers.{TellsVerdict}
use Rattle.live_tables.specs.Tried.{Tries, after_try}

pub opens_runs : (w new : World) (xid : ℕ) (answer : Result (Unit {0}) Fault) → Opens w xid answer new → new.stopped ≡ w.stopped
opens_runs w new xid (Ok u) opens = ap (λ (v : World). v.stopped) opens.3
opens_runs w new xid (Err WasOpen) opens = ap (λ (v : World). v.stopped) opens.2
opens_runs w new xid (Err WereTooMany) opens = ap (λ (v : World). v.stopped) opens.3
opens_runs w new xid (Err WasStopped) opens = ap (λ (v : World). v.stopped) opens.1
opens_runs w new xid (Err HadNoMemory) opens = ap (λ (v : World). v.stopped) opens.3

pub tries_runs : (w : World) (xid : ℕ) (o : Opened) (sub : ℕ) (c : Change) (answer : Result Verdict EngineFault) → (after_try w xid o sub c answer).stopped ≡ w.stopped
tries_runs w xid o sub c (Ok (Acted Done)) = refl
tries_runs w xid o sub c (Ok (Acted Skipped)) = refl
tries_runs w xid o sub c (Ok (Acted (Held holder))) = refl
tries_runs w xid o sub c (Ok (Clashes clash)) = refl
tries_runs w xid o sub c (Err fault) = refl

pub back_runs : (w new : World) (xid : ℕ) (o : Opened) (sub : ℕ) → GoesBack w xid o sub new → new.stopped ≡ w.stopped
back_runs w new xid o sub goes = ap (λ (v : World). v.stopped) goes

pub commits_runs : (schema : Schema) (w new : World) (xid : ℕ) (o : Opened) (info : CommitInfo) → Commits schema w xid o info new → new.stopped ≡ w.stopped
commits_runs schema w new xid o info commits = ap (λ (v : World). v.stopped) commits

pub aborts_runs : (w new : World) (xid : ℕ) → Aborts w xid new → new.stopped ≡ w.stopped
aborts_runs w new xid aborts = ap (λ (v : World). v.stopped) aborts

no_stop : (w : World) → w.stopped ≡ None → ¬ IsSome w.stopped
no_stop w none is = let some : false ≡ true = ap is_some (sym none) ∙ is in cc

pub never_stopped : (schema : Schema) (w new : World) (xid : ℕ) (o : Opened) (sub : ℕ) (c : Change) (answer : Result Verdict EngineFault) → w.stopped ≡ None
    → TellsVerdict answer → Tries schema w xid o sub c answer new → IfErr answer (λ (fault : EngineFault). fault ≡ OutOfMemory)
never_stopped schema w new xid o sub c (Ok verdict) runs cause tries = tt
never_stopped schema w new xid o sub c (Err AlreadyOpen) runs cause tries = absurd tries
never_stopped schema w new xid o sub c (Err TooManyOpen) runs cause tries = absurd tries
never_stopped schema w new xid o sub c (Err (Clash clash)) runs cause tries = absurd cause
never_stopped schema w new xid o sub c (Err Stopped) runs cause tries = absurd (no_stop w runs tries.0)
never_stopped schema w new xid o sub c (Err OutOfMemory) runs cause tries = refl
