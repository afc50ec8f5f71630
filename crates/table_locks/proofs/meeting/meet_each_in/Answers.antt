use Rattle.std.proofs.Common.{rules, ◌≡◌, ◌<◌, ◌∙◌, arith, List, Some, length, slice_index_or, refl, sym, ap, subst}
use Rattle.std.specs.Prelude.{slice_get, slice_set}
use Rattle.std.proofs.lemmas.List.{set-get_or}
use Rattle.std.proofs.lemmas.Option.{slice_get-get_or}
use Rattle.table_parts.specs.Part.{Part}
use Rattle.parted_store.specs.Lent.{OpenTicket, Stands}
use Rattle.table_locks.specs.MeetingLemmas.{none_below, one_below, each_of}
use Rattle.table_locks.specs.TableStates.{IsKept}
use Rattle.table_locks.proofs.meeting.meet_each_in.Goals as goal

pub loop-i-init : goal.loop-i-init
loop-i-init g c = record { stand = none_below (λ (t : OpenTicket). Stands c.args.part.now t.shares) c.args.tickets.now; part = refl; tickets = refl }

pub meet_one-requires : goal.meet_one-requires
meet_one-requires g c = record {
  kept = subst (IsKept g.N.StoreNames.shares g.N.StoreNames.schema g.N.StoreNames.start) (sym c.loop-i.invariant.part) c.requires.kept;
}

pub loop-i-preserved : goal.loop-i-preserved
loop-i-preserved g c =
    let l = c.loop-i in
    let u : OpenTicket = slice_index_or l.tickets l.i c.index-tickets-i.result in
    let room : l.i < length l.tickets = search rules in
    let at : slice_get c.args.tickets.now l.i ≡ Some u =
    ap (λ (ts : List OpenTicket). slice_get ts l.i) (sym l.invariant.tickets) ∙ slice_get-get_or l.tickets l.i c.index-tickets-i.result room in
    record {
      stand =
          one_below (λ (t : OpenTicket). Stands c.args.part.now t.shares) c.args.tickets.now l.i u at l.invariant.stand
          (subst (λ (p : Part). Stands p u.shares) l.invariant.part c.meet_one.ensures.stands);
      part = c.meet_one.ensures.part ∙ l.invariant.part;
      tickets = ap (slice_set l.tickets l.i) c.meet_one.ensures.ticket ∙ set-get_or l.tickets l.i c.index-tickets-i.result ∙ l.invariant.tickets;
    }

pub returns-clause-stand : goal.returns-clause-stand
returns-clause-stand g c =
    let l = c.loop-i in
    let long : length l.tickets ≡ length c.args.tickets.now = ap length l.invariant.tickets in
    let ends : l.i ≡ length l.tickets = search rules in
    each_of (λ (t : OpenTicket). Stands c.args.part.now t.shares) c.args.tickets.now l.i (omega (arith, ends, long)) l.invariant.stand
