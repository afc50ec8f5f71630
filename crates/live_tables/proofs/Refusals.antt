-- A call that tried a change: what is said of it by holds is said of the world that the store represents.
--     memory_refused      refused for memory, it leaves all as it was
--     runs_there, runs_here      a world is not stopped where its store isn't, and so the other way
--     tried_by_holds      a call by holds, perhaps behind their making
--     refused_as_tried, acted_as_tried, stopped_as_tried      a call by which a clash stops the store
use Rattle.std.proofs.Common.{◌≡◌, ℕ, true, false, Option, Some, None, refl, sym, ap, subst, ◌∙◌}
use Rattle.std.specs.FinMap.{get}
use Rattle.std.specs.Prelude.{Result, Ok, Err, IsErrAnd, IsSome, is_some}
use Rattle.model.specs.declared.change.Change as change_type
use Rattle.model.specs.Rows.{Schema}
use Rattle.change.specs.declared.outcome.Clash.{Clash as AnyClash}
use Rattle.world.specs.World.{Opened, World}
use Rattle.world.specs.Steps.{Acts}
use Rattle.live_tables.specs.declared.answers.Acted as acted_type
use Rattle.live_tables.specs.declared.answers.EngineFault as fault_type
use Rattle.live_tables.specs.declared.answers.EngineFault.TheVariants.{AlreadyOpen, TooManyOpen, Clash, Stopped, OutOfMemory}
use Rattle.live_tables.specs.declared.answers.Verdict as verdict_type
use Rattle.live_tables.specs.declared.answers.Verdict.TheVariants.{Acted, Clashes}
use Rattle.live_tables.specs.declared.live_tables.Live.{Live}
use Rattle.live_tables.specs.Answers.{told, told_stop, after_act}
use Rattle.live_tables.specs.Represents.{Represents}
use Rattle.live_tables.specs.ByHolds.{RepresentsByHolds}
use Rattle.live_tables.specs.ActLemmas.{has_stopped}
use Rattle.live_tables.specs.ByHoldsLemmas.{from_holds, by_some}
use Rattle.live_tables.specs.declared.live_tables.Stopped as stopped_type
use Rattle.live_tables.specs.Tried.{HasClash, Tries, after_try, HasTriedBy, HasTried, HasStopped, HasActed}

-- It leaves all as it was, in whatever way a store stands for its world.
pub memory_refused : (Stands : World → Live → Type 0) (l : Live) → ((w : World) → Stands w l → w.stopped ≡ None) → (xid sub : ℕ) (c : change_type.Change)
    (answer : Result verdict_type.Verdict fault_type.EngineFault) → IsErrAnd answer (λ (fault : fault_type.EngineFault). fault ≡ OutOfMemory) → HasTriedBy Stands l l xid sub c answer
memory_refused Stands l running xid sub c (Ok verdict) refused = absurd refused
memory_refused Stands l running xid sub c (Err fault) refused =
    subst (λ (f : fault_type.EngineFault). HasTriedBy Stands l l xid sub c (Err f)) (sym refused)
    record { tries = λ w o tied is. (running w tied, refl); tied = λ w o tied is. tied; cause = tt; schema = refl }

pub runs_there : (l : Live) → l.stopped ≡ None → (w : World) → Represents w l → w.stopped ≡ None
runs_there l running w tied = sym tied.stopped ∙ ap told_stop running

-- behind a call that changed no world
pub tried_by_holds : (old mid new : Live) (xid sub : ℕ) (c : change_type.Change) (answer : Result verdict_type.Verdict fault_type.EngineFault)
    → ((w : World) → Represents w old → RepresentsByHolds w mid) → mid.tables.schema ≡ old.tables.schema → new.made ≡ true
    → HasTriedBy RepresentsByHolds mid new xid sub c answer → HasTried old new xid sub c answer
tried_by_holds old mid new xid sub c answer held schema made tried = record {
  tries = λ w o tied is.
      subst (λ (s : Schema). Tries s w xid o sub c answer (after_try w xid o sub c answer)) schema (tried.tries w o (held w tied) is);
  tied = λ w o tied is. from_holds (after_try w xid o sub c answer) new (tried.tied w o (held w tied) is) made;
  cause = tried.cause;
  schema = tried.schema ∙ schema;
}

-- a store isn't stopped where its world isn't
pub runs_here : (w : World) (l : Live) → Represents w l → w.stopped ≡ None → l.stopped ≡ None
runs_here w l tied running = by l.stopped refl
  where
    by : (found : Option stopped_type.Stopped) → l.stopped ≡ found → l.stopped ≡ None
    by None is = is
    by (Some stop) is =
        let some = by_some w l tied in
        let stopped : false ≡ true = ap is_some (sym running) ∙ has_stopped w (record l { holds = some.0 }) some.1 (subst (λ (f : Option stopped_type.Stopped). IsSome f) (sym is) refl) in cc

-- ---- a call by which a clash stops the store

-- a fault is told as it is
pub refused_as_tried : (old new : Live) (xid sub : ℕ) (c : change_type.Change) (fault : fault_type.EngineFault) → HasTried old new xid sub c (Err fault) → HasActed old new xid sub c (Err fault)
refused_as_tried old new xid sub c AlreadyOpen tried = record { acts = tried.tries; tied = tried.tied; cause = tt; schema = tried.schema }
refused_as_tried old new xid sub c TooManyOpen tried = record { acts = tried.tries; tied = tried.tied; cause = tt; schema = tried.schema }
refused_as_tried old new xid sub c (Clash clash) tried = absurd tried.cause
refused_as_tried old new xid sub c Stopped tried = record { acts = tried.tries; tied = tried.tied; cause = tt; schema = tried.schema }
refused_as_tried old new xid sub c OutOfMemory tried = record { acts = tried.tries; tied = tried.tied; cause = tt; schema = tried.schema }

-- it acted
pub acted_as_tried : (old new : Live) (xid sub : ℕ) (c : change_type.Change) (acted : acted_type.Acted) → HasTried old new xid sub c (Ok (Acted acted))
    → HasActed old new xid sub c (Ok acted)
acted_as_tried old new xid sub c acted tried = record { acts = tried.tries; tied = tried.tied; cause = tt; schema = tried.schema }

-- it clashes, and stops the store
pub stopped_as_tried : (old mid new : Live) (xid sub : ℕ) (c : change_type.Change) (clash : AnyClash) (answer : Result acted_type.Acted fault_type.EngineFault)
    → HasTried old mid xid sub c (Ok (Clashes clash)) → HasStopped mid new xid sub c clash answer → HasActed old new xid sub c answer
stopped_as_tried old mid new xid sub c clash answer tried stopped = record {
  acts = λ w o tied is. subst (λ (s : Schema). Acts s w xid o sub c (told answer) (after_act w xid o sub c (told answer))) tried.schema (came w o tied is).0;
  tied = λ w o tied is. (came w o tied is).1;
  cause = stopped.cause;
  schema = stopped.schema ∙ tried.schema;
}
  where
    came : (w : World) (o : Opened) → Represents w old → get w.opened xid ≡ Some o
        → Acts mid.tables.schema w xid o sub c (told answer) (after_act w xid o sub c (told answer)) × Represents (after_act w xid o sub c (told answer)) new
    came w o tied is =
        stopped.acts w o (tried.tied w o tied is) is
        (subst (λ (s : Schema). HasClash s w xid o c clash) (sym tried.schema) (tried.tries w o tied is).1)
