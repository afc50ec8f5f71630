-- A change that was tried, in the words of the worlds that a store stands for.
--     HasClash      the change clashes so on its transaction's view, and meets no cell of another
--     Tries, after_try      what comes of a change where a clash alters nothing; the world then
--     HasTriedBy      the world that it stands for takes the change so, and it stands for the one that follows
--     HasTried      so it is where the store represents its world
--     HasStopped      a change that clashes stops the store
--     HasActedBy, HasActed      the same of a call by which a clash stops the store
use Rattle.std.specs.Prelude.{◌≡◌, ℕ, Some, None, Result, Ok, Err}
use Rattle.std.specs.FinMap.{get}
use Rattle.model.specs.declared.change.Change as change_type
use Rattle.model.specs.Effect.{ClashCause}
use Rattle.model.specs.Rows.{Schema}
use Rattle.change.specs.declared.outcome.Clash.{Clash}
use Rattle.world.specs.World.{Opened, World}
use Rattle.world.specs.Steps.{Acts, IsClashing, IsRefused}
use Rattle.live_tables.specs.declared.answers.Acted as acted_type
use Rattle.live_tables.specs.declared.answers.EngineFault as fault_type
use Rattle.live_tables.specs.declared.answers.Verdict as verdict_type
use Rattle.live_tables.specs.declared.answers.Verdict.TheVariants.{Acted, Clashes}
use Rattle.live_tables.specs.declared.live_tables.Live.{Live}
use Rattle.live_tables.specs.Answers.{cause_of, told, told_fault, after_act, TellsCause, TellsVerdict}
use Rattle.live_tables.specs.Represents.{Represents}

-- the change clashes so on its transaction's own view, and meets no cell of another
abbrev pub HasClash : Schema → World → ℕ → Opened → change_type.Change → Clash → Type 0
HasClash schema w xid o c clash = (cause : ClashCause) × (cause_of clash ≡ Some cause) × IsClashing schema w xid o c cause

-- what comes of a change where a clash alters nothing
abbrev pub Tries : Schema → World → ℕ → Opened → ℕ → change_type.Change → Result verdict_type.Verdict fault_type.EngineFault → World → Type 0
Tries schema w xid o sub c (Ok (Acted acted)) new = Acts schema w xid o sub c (told (Ok acted)) new
Tries schema w xid o sub c (Ok (Clashes clash)) new = (w.stopped ≡ None) × HasClash schema w xid o c clash × (new ≡ w)
Tries schema w xid o sub c (Err fault) new = IsRefused w (told_fault fault) new

-- the world then
abbrev pub after_try : World → ℕ → Opened → ℕ → change_type.Change → Result verdict_type.Verdict fault_type.EngineFault → World
after_try w xid o sub c (Ok (Acted acted)) = after_act w xid o sub c (told (Ok acted))
after_try w xid o sub c (Ok (Clashes clash)) = w
after_try w xid o sub c (Err fault) = w

-- In each world that it stands for so and that has the transaction open, the change comes to this, and it stands for the world then.
pub record HasTriedBy (Stands : World → Live → Type 0) (old new : Live) (xid sub : ℕ) (c : change_type.Change) (answer : Result verdict_type.Verdict fault_type.EngineFault) : Type 0 where
  pub tries : (w : World) (o : Opened) → Stands w old → get w.opened xid ≡ Some o → Tries old.tables.schema w xid o sub c answer (after_try w xid o sub c answer)
  pub tied : (w : World) (o : Opened) → Stands w old → get w.opened xid ≡ Some o → Stands (after_try w xid o sub c answer) new
  pub cause : TellsVerdict answer
  pub schema : new.tables.schema ≡ old.tables.schema

-- so it is in each world that the store represents
abbrev pub HasTried : Live → Live → ℕ → ℕ → change_type.Change → Result verdict_type.Verdict fault_type.EngineFault → Type 0
HasTried old new xid sub c answer = HasTriedBy Represents old new xid sub c answer

-- In each world that it represents and in which the change clashes so, the call is a step to the world that it represents then.
pub record HasStopped (old new : Live) (xid sub : ℕ) (c : change_type.Change) (clash : Clash) (answer : Result acted_type.Acted fault_type.EngineFault) : Type 0 where
  pub acts : (w : World) (o : Opened) → Represents w old → get w.opened xid ≡ Some o → HasClash old.tables.schema w xid o c clash
      → Acts old.tables.schema w xid o sub c (told answer) (after_act w xid o sub c (told answer)) × Represents (after_act w xid o sub c (told answer)) new
  pub cause : TellsCause answer
  pub schema : new.tables.schema ≡ old.tables.schema

-- In each world that it stands for so and that has the transaction open, the call is a step to the world that it stands for then.
pub record HasActedBy (Stands : World → Live → Type 0) (old new : Live) (xid sub : ℕ) (c : change_type.Change) (answer : Result acted_type.Acted fault_type.EngineFault) : Type 0 where
  pub acts : (w : World) (o : Opened) → Stands w old → get w.opened xid ≡ Some o → Acts old.tables.schema w xid o sub c (told answer) (after_act w xid o sub c (told answer))
  pub tied : (w : World) (o : Opened) → Stands w old → get w.opened xid ≡ Some o → Stands (after_act w xid o sub c (told answer)) new
  pub cause : TellsCause answer
  pub schema : new.tables.schema ≡ old.tables.schema

-- so it is in each world that the store represents
abbrev pub HasActed : Live → Live → ℕ → ℕ → change_type.Change → Result acted_type.Acted fault_type.EngineFault → Type 0
HasActed old new xid sub c answer = HasActedBy Represents old new xid sub c answer
