use Rattle.std.proofs.Common.{rules, ◌≡◌, if◌then◌else◌, true, false, Bool, Some, length, refl, sym, subst, ◌∙◌}
use Rattle.std.specs.Prelude.{Ok, Err}
use Rattle.model.specs.Effect.{outcome}
use Rattle.change.specs.Applied.{AnswersOutcome}
use Rattle.std.specs.FinMap.{get}
use Rattle.model.specs.declared.change.Change as change_type
use Rattle.model.specs.declared.item.Item.TheVariants.{Change}
use Rattle.model.specs.Named.{NamesTables}
use Rattle.model.specs.Rows.{Schema}
use Rattle.world.specs.World.{Opened, World}
use Rattle.world.specs.Steps.{Acts, IsDone, IsSkipped, done_with}
use Rattle.live_tables.specs.Answers.{verdict_of}
use Rattle.live_tables.specs.Transactions.{HasApplied}
use Rattle.live_tables.specs.Represents.{Represents}
use Rattle.live_tables.specs.Tried.{HasTried}
use Rattle.live_tables.specs.ActLemmas.{after_refusal, refusal_caused, refusal_told}
use Rattle.live_tables.specs.declared.live_tables.Live.{Live}
use Rattle.keyholds.specs.Holds.{cells_held}
use Rattle.live_tables.specs.ByHoldsLemmas.{never_absent, open_tells}
use Rattle.live_tables.specs.BasicLemmas.{writes_by_borrow}
use Rattle.live_tables.specs.LoneLemmas.{would, stands, lone_free, lone_taken, lone_refused}
use Rattle.live_tables.proofs.Refusals.{memory_refused, runs_there}
use Rattle.live_tables.proofs.live_tables.Live.try_alone.Goals as goal
use Rattle.live_tables.proofs.live_tables.Live.try_alone.Goals.{After-apply}

pub returns-in_err-change : goal.returns-in_err-change
returns-in_err-change c =
    memory_refused Represents c.args.self.now (runs_there c.args.self.now c.requires.running) c.args.xid c.args.xid c.args.c.now c.from_residual.result c.from_residual.ensures.1

pub unreachable-requires : goal.unreachable-requires
unreachable-requires c = never_absent c.args.self.now c.args.xid c.requires.tied c.in_default.ensures.value

pub apply-requires-clause-named : goal.apply-requires-clause-named
apply-requires-clause-named c =
    let (w, o, tied, is) = c.requires.tied in
    (open_tells w c.args.self.now tied c.args.xid o is c.in-Some.transaction.now (sym c.in-Some.ensures.value)).named

-- the change was done, or it was skipped: the world took it as an item
taken : (c : After-apply) (done : Bool) → HasApplied done c.args.xid c.in_ok-change.change 0 c.args.self.now.tables c.apply.new.tables c.in-Some.transaction.now c.apply.new.self
    → (w : World) (o : Opened) → Represents w c.args.self.now → get w.opened c.args.xid ≡ Some o
    → Acts c.args.self.now.tables.schema w c.args.xid o c.args.xid c.in_ok-change.change (Ok (if done then IsDone else IsSkipped)) (done_with w c.args.xid o (Change c.args.xid c.in_ok-change.change))
    × Represents (done_with w c.args.xid o (Change c.args.xid c.in_ok-change.change))
    (record { tables = c.apply.new.tables; holds = c.args.self.now.holds; made = c.args.self.now.made; transactions = c.get_mut.follows.lender c.apply.new.self; stopped = c.args.self.now.stopped })
taken c done applied w o tied is =
    let old = c.in-Some.transaction.now in
    let after = c.get_mut.follows.lender c.apply.new.self in
    lone_taken w c.args.self.now tied c.requires.alone c.args.xid o is old c.apply.new.self
    (record { tables = c.apply.new.tables; holds = c.args.self.now.holds; made = c.args.self.now.made; transactions = after; stopped = c.args.self.now.stopped })
    (writes_by_borrow c.args.xid old c.apply.new.self c.args.self.now.transactions after (sym c.in-Some.ensures.value) (c.get_mut.follows.holds c.apply.new.self))
    refl refl (schema_is done applied) c.args.xid c.in_ok-change.change
    (subst (λ (change : change_type.Change). NamesTables (length c.args.self.now.tables.schema) change) (sym c.in_ok-change.ensures) c.requires.names) c.requires.running
    (sym (open_tells w c.args.self.now tied c.args.xid o is old (sym c.in-Some.ensures.value)).top) 0 done applied refl
  where
    schema_is : (done : Bool) → HasApplied done c.args.xid c.in_ok-change.change 0 c.args.self.now.tables c.apply.new.tables c.in-Some.transaction.now c.apply.new.self
        → c.apply.new.tables.schema ≡ c.args.self.now.tables.schema
    schema_is true a = a.1.1.schema_is
    schema_is false a = a.2.schema_is

-- the same, told of the change that was lent
module _ (c : After-apply) (done : Bool) (applied : HasApplied done c.args.xid c.in_ok-change.change 0 c.args.self.now.tables c.apply.new.tables c.in-Some.transaction.now c.apply.new.self)
    (w : World) (o : Opened) (tied : Represents w c.args.self.now) (is : get w.opened c.args.xid ≡ Some o) where
  lent_acts : Acts c.args.self.now.tables.schema w c.args.xid o c.args.xid c.args.c.now (Ok (if done then IsDone else IsSkipped)) (done_with w c.args.xid o (Change c.args.xid c.args.c.now))
  lent_acts =
      subst (λ (change : change_type.Change). Acts c.args.self.now.tables.schema w c.args.xid o c.args.xid change (Ok (if done then IsDone else IsSkipped)) (done_with w c.args.xid o (Change c.args.xid change)))
      c.in_ok-change.ensures (taken c done applied w o tied is).0

  lent_tied : Represents (done_with w c.args.xid o (Change c.args.xid c.args.c.now))
      (record { tables = c.apply.new.tables; holds = c.args.self.now.holds; made = c.args.self.now.made; transactions = c.get_mut.follows.lender c.apply.new.self; stopped = c.args.self.now.stopped })
  lent_tied =
      subst (λ (change : change_type.Change). Represents (done_with w c.args.xid o (Change c.args.xid change))
      (record { tables = c.apply.new.tables; holds = c.args.self.now.holds; made = c.args.self.now.made; transactions = c.get_mut.follows.lender c.apply.new.self; stopped = c.args.self.now.stopped }))
      c.in_ok-change.ensures (taken c done applied w o tied is).1

pub returns-in-Ok-true : goal.returns-in-Ok-true
returns-in-Ok-true c =
    let at = (goal.at.returns-in-Ok-true c).After-apply in
    let applied = rw c.in-Ok-true.field-0-test at c.in-Ok-true.ensures.ok in
    record { tries = λ w o tied is. lent_acts at true applied w o tied is; tied = λ w o tied is. lent_tied at true applied w o tied is; cause = search rules; schema = search rules }

pub returns-in-Ok-false : goal.returns-in-Ok-false
returns-in-Ok-false c =
    let at = (goal.at.returns-in-Ok-false c).After-apply in
    let applied = rw c.in-Ok-false.field-0-test at c.in-Ok-false.ensures.ok in
    record { tries = λ w o tied is. lent_acts at false applied w o tied is; tied = λ w o tied is. lent_tied at false applied w o tied is; cause = search rules; schema = search rules }

-- ---- it was refused

-- the store then
abbrev after : goal.After-verdict → Live
after c = record {
  tables = c.apply.new.tables;
  holds = c.args.self.now.holds;
  made = c.args.self.now.made;
  transactions = c.get_mut.follows.lender c.apply.new.self;
  stopped = c.args.self.now.stopped;
}

-- the change that was copied is the one that was lent
clashed : (c : goal.After-verdict) → AnswersOutcome (outcome c.args.self.now.tables.schema c.args.self.now.tables.rows c.args.c.now) (Err c.in-Err.refused.clash)
clashed c =
    subst (λ (change : change_type.Change). AnswersOutcome (outcome c.args.self.now.tables.schema c.args.self.now.tables.rows change) (Err c.in-Err.refused.clash)) c.in_ok-change.ensures
    c.in-Err.ensures.err.clash

refused : (c : goal.After-verdict) → HasTried c.args.self.now (after c) c.args.xid c.args.xid c.args.c.now (verdict_of c.in-Err.refused.clash)
refused c = record {
  tries = λ w o tied is.
      refusal_told w (record c.args.self.now { holds = would w c.args.self.now tied c.requires.alone c.args.xid o is }) (stands w c.args.self.now tied c.requires.alone c.args.xid o is)
      c.args.xid o is c.args.xid c.args.c.now c.requires.running (lone_free w c.args.self.now tied c.requires.alone c.args.xid o is c.args.c.now) c.in-Err.refused.clash (clashed c);
  tied = λ w o tied is.
      subst (λ (v : World). Represents v (after c)) (sym (after_refusal w c.args.xid o c.args.xid c.args.c.now c.in-Err.refused.clash))
      (lone_refused w c.args.self.now tied c.requires.alone c.args.xid o is c.in-Some.transaction.now c.apply.new.self (after c)
      (writes_by_borrow c.args.xid c.in-Some.transaction.now c.apply.new.self c.args.self.now.transactions (after c).transactions (sym c.in-Some.ensures.value)
      (c.get_mut.follows.holds c.apply.new.self))
      refl refl c.in-Err.ensures.err.tables.schema_is c.in-Err.ensures.err.tables c.in-Err.ensures.err.kept refl);
  cause = refusal_caused c.in-Err.refused.clash;
  schema = c.in-Err.ensures.err.tables.schema_is;
}

pub returns-in-Err : goal.returns-in-Err
returns-in-Err c =
    subst (HasTried c.args.self.now (after c) c.args.xid c.args.xid c.args.c.now) (sym c.verdict.ensures) (refused c)
