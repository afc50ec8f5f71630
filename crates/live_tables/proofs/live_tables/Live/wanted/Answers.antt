use Rattle.std.proofs.Common.{ℕ, Option, sym, subst, ◌∙◌, length}
use Rattle.std.specs.Prelude.{IfSome}
use Rattle.model.specs.declared.change.Change.{Change}
use Rattle.model.specs.Named.{NamesTables}
use Rattle.live_tables.specs.ByHoldsLemmas.{never_absent}
use Rattle.live_tables.proofs.Stands.{if_ok}
use Rattle.live_tables.proofs.live_tables.Live.wanted.Goals as goal

pub returns-in-Some-clause-wants : goal.returns-in-Some-clause-wants
returns-in-Some-clause-wants c =
    if_ok c.copy_wanted.result _ _ c.copy_wanted.ensures (λ wants copied w o tied is.
    copied ∙ (tied.beside c.args.xid o c.in-Some.transaction.now is (sym c.in-Some.ensures.value)).wants)

pub returns-in-Some-clause-named : goal.returns-in-Some-clause-named
returns-in-Some-clause-named c =
    if_ok c.copy_wanted.result _ _ c.copy_wanted.ensures (λ wants copied w o tied is.
    subst (λ (found : Option (ℕ × Change)). IfSome found (λ (p : ℕ × Change). NamesTables (length c.args.self.now.tables.schema) p.1)) (sym copied)
    (tied.beside c.args.xid o c.in-Some.transaction.now is (sym c.in-Some.ensures.value)).named)

pub returns-in-None-clause-wants : goal.returns-in-None-clause-wants
returns-in-None-clause-wants c = λ w o tied is.
    absurd (never_absent c.args.self.now c.args.xid (w, o, tied, is) c.in-None.ensures.value)
