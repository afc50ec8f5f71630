use Rattle.std.proofs.Common.{◌≡◌, ◌∙◌, ◌++◌, ◌∷◌, [], List, refl, sym, ap}
use Rattle.tokens.specs.Half.{Half}
use Rattle.world.specs.Steps.{aborts, aborted_with}
use Rattle.world.specs.World.{Past, World}
use Rattle.world_parts.specs.Lines.{line_at}
use Rattle.engine.specs.declared.events.LineEvent.{LineEvent}
use Rattle.engine.specs.declared.events.LineEvent.TheVariants.{Aborted as WasAborted}
use Rattle.engine.specs.EventLemmas.{same_commits}
use Rattle.engine.specs.Events.{opened_by, commits_in}
use Rattle.table_locks.specs.CallLemmas.{belong_each, stay_each}
use Rattle.table_locks.specs.declared.ticket.Waits.TheVariants.{Somewhere}
use Rattle.table_locks.proofs.journal.Journal.abort.Goals as goal

pub abort_in-requires-clause-belong : goal.abort_in-requires-clause-belong
abort_in-requires-clause-belong g c =
    belong_each g.N.StoreNames.shares g.N.StoreNames.schema g.N.StoreNames.start Somewhere c.args.ticket c.requires.ticket c.args.lent.now c.requires.met.kept

pub returns-clause-still : goal.returns-clause-still
returns-clause-still g c =
    let t = c.args.ticket in
    let after : World → World = λ w. aborted_with w t.number in
    let did = c.abort_in.ensures in
    stay_each g.N.StoreNames.shares g.N.StoreNames.schema g.N.StoreNames.start Somewhere t c.requires.ticket c.args.lent.now c.abort_in.new.parts c.requires.met after
    did.parts did.same g.N.StoreNames.tables (λ w runs at. aborts t.number (opened_by t.events) (after w) at refl) (λ w. refl) did.ends did.sound did.long

-- an abort is no commit
pub invariant_of-self : goal.invariant_of-self
invariant_of-self g c =
    let was : List LineEvent = c.self.inside.part.line.list in
    let met = c.meet.ensures.line ∙ c.meet.ensures.met in
    let aborted : LineEvent = WasAborted c.args.ticket.number in
    let commits : commits_in c.abort_in.new.journal.line.list ≡ commits_in was =
    ap (λ (h : Half LineEvent). commits_in h.list) (sym c.abort_in.ensures.line) ∙ ap commits_in c.abort_in.ensures.appended
    ∙ ap (λ (h : Half LineEvent). commits_in (h.list ++ aborted ∷ [])) met
    ∙ same_commits was aborted refl in
    record {
      line =
          ap (λ (h : Half LineEvent). h.name) (sym c.abort_in.ensures.line) ∙ c.abort_in.ensures.name ∙ ap (λ (h : Half LineEvent). h.name) c.meet.ensures.line
          ∙ c.requires.line;
      name = c.self.invariant.name;
      lists = λ table list at. c.self.invariant.lists table list at ∙ ap (λ (line : List Past). line_at table line) (sym commits);
      beyond = λ table past. ap (λ (line : List Past). line_at table line) commits ∙ c.self.invariant.beyond table past;
    }
