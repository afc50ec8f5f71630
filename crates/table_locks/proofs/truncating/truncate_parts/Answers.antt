use Rattle.std.proofs.Common.{◌≡◌, [], List, Err, sym, subst}
use Rattle.std.specs.Prelude.{Result}
use Rattle.world.specs.Steps.{Fault, Acted}
use Rattle.world_parts.specs.ByTable.{changes_at}
use Rattle.world_parts.specs.Parts.{wanted_by}
use Rattle.live_tables.specs.declared.answers.EngineFault.{EngineFault}
use Rattle.live_tables.specs.Answers.{told}
use Rattle.world.specs.Steps.{OutOfMemory}
use Rattle.engine.specs.declared.events.Event.{Event}
use Rattle.engine.specs.Events.{opened_by}
use Rattle.table_locks.specs.Tickets.{IsTicket, waits_acted}
use Rattle.table_locks.specs.TruncatingLemmas.{kept_behind, known_behind, apart_behind, beside_behind, cuts_behind, stay_both, refused_is}
use Rattle.table_locks.specs.declared.ticket.Waits.TheVariants.{Somewhere}
use Rattle.table_locks.proofs.truncating.truncate_parts.Goals as goal

pub returns-then-is_err-clause-is : goal.returns-then-is_err-clause-is
returns-then-is_err-clause-is g c waits is =
    subst (λ (fault : EngineFault). IsTicket g.N.StoreNames.shares g.N.StoreNames.schema (waits_acted waits (told (Err fault))) c.refuse.new.self)
    (sym c.refuse.ensures.same)
    (refused_is g.N.StoreNames.shares g.N.StoreNames.schema waits c.come_each.new.ticket c.refuse.new.self OutOfMemory c.refuse.ensures.ticket
    (c.come_each.ensures.is waits is))

pub truncate_tied-requires-clause-kept : goal.truncate_tied-requires-clause-kept
truncate_tied-requires-clause-kept g c =
    kept_behind g.N.StoreNames.shares g.N.StoreNames.tables g.N.StoreNames.schema g.N.StoreNames.start c.args.lent.now c.come_each.new.lent c.come_each.ensures.still

pub truncate_tied-requires-clause-known : goal.truncate_tied-requires-clause-known
truncate_tied-requires-clause-known g c =
    known_behind g.N.StoreNames.shares g.N.StoreNames.tables g.N.StoreNames.schema g.N.StoreNames.start c.args.lent.now c.come_each.new.lent c.come_each.ensures.still
    c.requires.known

pub truncate_tied-requires-clause-apart : goal.truncate_tied-requires-clause-apart
truncate_tied-requires-clause-apart g c =
    apart_behind g.N.StoreNames.shares g.N.StoreNames.tables g.N.StoreNames.schema g.N.StoreNames.start c.args.lent.now c.come_each.new.lent c.come_each.ensures.still
    c.requires.apart

pub truncate_tied-requires-clause-ticket : goal.truncate_tied-requires-clause-ticket
truncate_tied-requires-clause-ticket g c = c.come_each.ensures.is Somewhere c.requires.ticket

pub truncate_tied-requires-clause-cuts : goal.truncate_tied-requires-clause-cuts
truncate_tied-requires-clause-cuts g c = (
  c.requires.cuts.0,
  cuts_behind g.N.StoreNames.shares g.N.StoreNames.tables g.N.StoreNames.schema g.N.StoreNames.start c.args.lent.now c.come_each.new.lent c.come_each.ensures.still
      c.args.c.now c.requires.cuts.0 c.requires.cuts.1,
)

pub truncate_tied-requires-clause-waits : goal.truncate_tied-requires-clause-waits
truncate_tied-requires-clause-waits g c table beside =
    subst (λ (events : List Event). changes_at table (wanted_by (opened_by events).wants) ≡ []) (sym c.come_each.ensures.events)
    (c.requires.waits table
    (beside_behind g.N.StoreNames.shares g.N.StoreNames.tables g.N.StoreNames.schema g.N.StoreNames.start c.args.lent.now c.come_each.new.lent c.come_each.ensures.still
    table beside))

pub returns-clause-still : goal.returns-clause-still
returns-clause-still g c =
    stay_both g.N.StoreNames.shares g.N.StoreNames.tables g.N.StoreNames.schema g.N.StoreNames.start c.args.lent.now c.come_each.new.lent c.truncate_tied.new.lent
    c.requires.kept c.come_each.ensures.still c.truncate_tied.ensures.still

pub returns-clause-is : goal.returns-clause-is
returns-clause-is g c waits is =
    subst (λ (answer : Result Acted Fault). IsTicket g.N.StoreNames.shares g.N.StoreNames.schema (waits_acted waits answer) c.truncate_tied.new.ticket)
    (sym c.acted_of.ensures.told) (c.truncate_tied.ensures.is waits (c.come_each.ensures.is waits is))
