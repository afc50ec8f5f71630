use Rattle.std.proofs.Common.{◌≡◌, refl, sym, subst, ℕ, Result, Ok, Err}
use Rattle.std.specs.Result.{IsErr}
use Rattle.std.proofs.lemmas.Bool.{false≢true}
use Rattle.world.specs.World.{Opened, World}
use Rattle.live_tables.specs.declared.answers.EngineFault as fault_type
use Rattle.live_tables.specs.Answers.{told_call, after_touch}
use Rattle.live_tables.specs.Represents.{Represents}
use Rattle.engine.proofs.store.touch_live.Goals as goal

-- a call that is refused leaves the world
refused : (w : World) (xid : ℕ) (o : Opened) (sub : ℕ) (r : Result (Unit {0}) fault_type.EngineFault) → IsErr r → after_touch w xid o sub (told_call r) ≡ w
refused w xid o sub (Ok u) is = absurd (false≢true is)
refused w xid o sub (Err fault) is = refl

pub returns-in_err-touch-clause-tied : goal.returns-in_err-touch-clause-tied
returns-in_err-touch-clause-tied c w o tied is =
    subst (λ (v : World). Represents v c.touch.new.self) (sym (refused w c.args.xid o c.args.sub c.from_residual.result c.from_residual.ensures.0))
    (c.in_err-touch.ensures.err w o tied is)
