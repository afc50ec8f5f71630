use Rattle.std.proofs.Common.{◌∙◌, ◌++◌, ◌∷◌, [], List, sym, ap}
use Rattle.tokens.specs.Half.{Half}
use Rattle.world.specs.World.{Past}
use Rattle.world_parts.specs.Lines.{line_at}
use Rattle.engine.specs.declared.events.LineEvent.{LineEvent}
use Rattle.engine.specs.declared.events.LineEvent.TheVariants.{Committed as WasCommitted}
use Rattle.engine.specs.EventLemmas.{more_commits}
use Rattle.engine.specs.Events.{opened_by, commits_in}
use Rattle.table_locks.specs.EndingLemmas.{ends_before, fit_told, lists_told, beyond_told}
use Rattle.table_locks.specs.LendingLemmas.{numbered_apart}
use Rattle.table_locks.specs.declared.ticket.Waits.TheVariants.{Somewhere}
use Rattle.table_locks.proofs.journal.Journal.commit.Goals as goal

pub tell_each-requires-clause-apart : goal.tell_each-requires-clause-apart
tell_each-requires-clause-apart g c =
    numbered_apart g.N.StoreNames.shares g.N.StoreNames.tables g.N.StoreNames.schema g.N.StoreNames.start c.args.guards.now c.args.lent.now c.requires.fit c.requires.met.apart

pub commit_in-requires-clause-later : goal.commit_in-requires-clause-later
commit_in-requires-clause-later g c =
    ends_before g.N.StoreNames.shares g.N.StoreNames.tables g.N.StoreNames.schema g.N.StoreNames.start c.args.guards.now c.args.lent.now c.args.info.end c.requires.fit
    c.requires.before

pub invariant_of-self : goal.invariant_of-self
invariant_of-self g c =
    let t = c.args.ticket in
    let was : List LineEvent = c.self.inside.part.line.list in
    let met = c.meet.ensures.line ∙ c.meet.ensures.met in
    let now = ap (λ (h : Half LineEvent). h.list) (sym c.commit_in.ensures.line) ∙ c.commit_in.ensures.appended in
    let commits =
    sym (more_commits was t.number (opened_by t.events).items c.args.info)
    ∙ ap (λ (h : Half LineEvent). commits_in (h.list ++ WasCommitted t.number (opened_by t.events).items c.args.info ∷ [])) (sym met)
    ∙ ap commits_in (sym now) in
    record {
      line =
          ap (λ (h : Half LineEvent). h.name) (sym c.commit_in.ensures.line) ∙ c.commit_in.ensures.name ∙ ap (λ (h : Half LineEvent). h.name) c.meet.ensures.line
          ∙ c.requires.line;
      name = c.tell_each.ensures.name ∙ c.self.invariant.name;
      lists = λ table list at.
          lists_told g.N.StoreNames.shares g.N.StoreNames.tables g.N.StoreNames.schema g.N.StoreNames.start Somewhere t c.requires.ticket c.args.info c.args.lent.now c.requires.met
          c.args.guards.now c.tell_each.new.guards c.self.inside.tables c.tell_each.new.tables c.requires.fit c.tell_each.ensures c.recall_invariant.ensures (commits_in was)
          c.self.invariant.lists table list at
          ∙ ap (λ (line : List Past). line_at table line) commits;
      beyond = λ table past.
          ap (λ (line : List Past). line_at table line) (sym commits)
          ∙ beyond_told g.N.StoreNames.shares g.N.StoreNames.tables g.N.StoreNames.schema g.N.StoreNames.start Somewhere t c.requires.ticket c.args.info c.recall_invariant.ensures
          (commits_in was) c.self.invariant.beyond table past;
    }

pub returns-clause-fit : goal.returns-clause-fit
returns-clause-fit g c =
    let did = c.commit_in.ensures in
    fit_told g.N.StoreNames.shares g.N.StoreNames.tables g.N.StoreNames.schema g.N.StoreNames.start Somewhere c.args.ticket c.requires.ticket c.args.info c.args.lent.now
    c.requires.met c.args.guards.now c.tell_each.new.guards c.self.inside.tables c.tell_each.new.tables c.requires.fit c.tell_each.ensures c.commit_in.new.parts did.long
    did.parts did.same did.sound did.ends
