use Rattle.std.proofs.Common.{◌≡◌, List, [], ap, sym, ◌∙◌, subst}
use Rattle.world_parts.specs.ByTable.{changes_at}
use Rattle.world_parts.specs.Parts.{wanted_by}
use Rattle.engine.specs.declared.events.Event.{Event}
use Rattle.engine.specs.Events.{opened_by}
use Rattle.parted_store.specs.Lent.{OpenTicket}
use Rattle.table_locks.specs.StateLemmas.{stays_on}
use Rattle.table_locks.proofs.acting.try_in.Goals as goal

pub act_tied-answer-requires-clause-waits : goal.act_tied-answer-requires-clause-waits
act_tied-answer-requires-clause-waits g c other apart =
    subst (λ (events : List Event). changes_at other (wanted_by (opened_by events).wants) ≡ [])
    (sym (ap (λ (t : OpenTicket). t.events) c.ticket.view_is ∙ c.come.ensures.events))
    (c.requires.waits other (λ same. apart (same ∙ sym c.come.ensures.fits.number)))

pub returns-clause-fits : goal.returns-clause-fits
returns-clause-fits g c =
    stays_on g.N.StoreNames.shares g.N.StoreNames.tables g.N.StoreNames.schema g.N.StoreNames.start c.args.part.now c.come.new.part c.act_tied-answer.new.part
    c.come.ensures.fits c.act_tied-answer.ensures.fits
