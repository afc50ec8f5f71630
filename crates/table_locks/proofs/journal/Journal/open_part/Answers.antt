use Rattle.std.proofs.Common.{◌≡◌, ◌∙◌, ◌++◌, ◌∷◌, [], List, ap, sym, append-nil}
use Rattle.std.proofs.lemmas.Grind.{flat_map-append}
use Rattle.tokens.specs.Half.{Half}
use Rattle.world.specs.World.{Past}
use Rattle.world_parts.specs.Lines.{line_at}
use Rattle.engine.specs.declared.events.LineEvent.{LineEvent}
use Rattle.engine.specs.declared.events.LineEvent.TheVariants.{Opened as WasOpened}
use Rattle.engine.specs.Events.{commits_in, past_of}
use Rattle.table_locks.proofs.journal.Journal.open_part.Goals as goal

-- an open is no commit
pub invariant_of-self-2 : goal.invariant_of-self-2
invariant_of-self-2 g c =
    let was = c.self.inside.part.line.list in
    let line_is : c.open.new.self.line.list ≡ was ++ WasOpened c.args.xid ∷ [] =
    ap (λ (h : Half LineEvent). h.list) (sym c.in_ok-ticket.ensures.line) ∙ c.in_ok-ticket.ensures.ok
    ∙ ap (λ (h : Half LineEvent). h.list ++ WasOpened c.args.xid ∷ []) c.in_ok-ticket.ensures.met in
    let commits : commits_in was ≡ commits_in c.open.new.self.line.list =
    sym (ap commits_in line_is ∙ flat_map-append past_of was (WasOpened c.args.xid ∷ []) ∙ append-nil (commits_in was)) in
    record {
      line = ap (λ (h : Half LineEvent). h.name) (sym c.in_ok-ticket.ensures.line) ∙ c.open.ensures.name ∙ c.requires;
      name = c.self.invariant.name;
      lists = λ table list at. c.self.invariant.lists table list at ∙ ap (λ (line : List Past). line_at table line) commits;
      beyond = λ table past. ap (λ (line : List Past). line_at table line) (sym commits) ∙ c.self.invariant.beyond table past;
    }
