use Rattle.std.proofs.Common.{Option, refl, sym, subst, inl, inr}
use Rattle.live_tables.specs.declared.answers.Stop.{Stop}
use Rattle.live_tables.specs.Answers.{TellsWhatStopped}
use Rattle.run.specs.declared.end.End.{End}
use Rattle.run.specs.declared.end.End.TheVariants.{Clean, HeldKey, OutOfMemory}
use Rattle.table_locks.specs.Noted.{IsNoted, TellsHolder, TellsHeld}
use Rattle.leader.specs.Decided.{IsDecided}
use Rattle.leader.specs.Ending.{waiter_in}
use Rattle.leader.proofs.Deciding.{is_stopped}
use Rattle.leader.proofs.ending.decide.Goals as goal

pub returns-in-None : goal.returns-in-None
returns-in-None c = λ schema w given stopped held noted.
    subst (λ (first : End). IsDecided schema w (IsNoted w) given first Clean) (sym c.in-Clean.is)
    (inl (subst (λ (stop : Option Stop). TellsWhatStopped stop w.stopped) c.in-None.is stopped, refl))

pub returns-in-Some : goal.returns-in-Some
returns-in-Some c = λ schema w given stopped held noted.
    subst (λ (first : End). IsDecided schema w (IsNoted w) given first c.end_of_noted.result) (sym c.in-Clean.is)
    (inr (is_stopped w c.in-Some.field-0 (subst (λ (stop : Option Stop). TellsWhatStopped stop w.stopped) c.in-Some.is stopped), c.end_of_noted.ensures w noted))

pub returns-in-Unique : goal.returns-in-Unique
returns-in-Unique c = λ schema w given stopped held noted.
    elim (c.in-Unique.is) [
      | inl unique ↦
          subst (λ (first : End). IsDecided schema w (IsNoted w) given first c.end_of_noted-in-Unique.result) (sym unique.2)
          (c.end_of_noted-in-Unique.ensures w noted)
      | inr null ↦
          subst (λ (first : End). IsDecided schema w (IsNoted w) given first c.end_of_noted-in-Unique.result) (sym null.1)
          (c.end_of_noted-in-Unique.ensures w noted)
    ]

pub returns-in-Some-holder : goal.returns-in-Some-holder
returns-in-Some-holder c = λ schema w given stopped held noted.
    let told : TellsHolder schema w given c.in-HeldKey.xid c.args.found.holder =
    subst (λ (first : End). TellsHeld schema w given (waiter_in first) c.args.found.holder) c.in-HeldKey.is held in
    subst (λ (first : End). IsDecided schema w (IsNoted w) given first (HeldKey c.in-HeldKey.xid c.in-Some-holder.holder)) (sym c.in-HeldKey.is)
    (inl (c.in-Some-holder.holder, subst (TellsHolder schema w given c.in-HeldKey.xid) c.in-Some-holder.is told, refl))

pub returns-in-None-holder : goal.returns-in-None-holder
returns-in-None-holder c = λ schema w given stopped held noted.
    let told : TellsHolder schema w given c.in-HeldKey.xid c.args.found.holder =
    subst (λ (first : End). TellsHeld schema w given (waiter_in first) c.args.found.holder) c.in-HeldKey.is held in
    subst (λ (first : End). IsDecided schema w (IsNoted w) given first OutOfMemory) (sym c.in-HeldKey.is)
    (inr (subst (TellsHolder schema w given c.in-HeldKey.xid) c.in-None-holder.is told, refl))
