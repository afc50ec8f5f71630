use Rattle.std.proofs.Common.{rules, ◌≡◌, ◌<◌, ◌+◌, ◌∙◌, arith, List, Some, length, slice_index_or, refl, sym, ap, subst}
use Rattle.std.specs.Prelude.{slice_get, slice_set}
use Rattle.std.proofs.lemmas.List.{set-get_or}
use Rattle.std.proofs.lemmas.Option.{slice_get-get_or}
use Rattle.table_parts.specs.Part.{Part}
use Rattle.parted_store.specs.Lent.{OpenTicket}
use Rattle.table_locks.specs.MeetingLemmas.{none_below, one_below, each_of, none_still, one_still, all_still, StillBelow}
use Rattle.table_locks.specs.TableStates.{IsKept}
use Rattle.table_locks.specs.Whole.{WantsIn}
use Rattle.table_locks.proofs.meeting.wait_in.Goals as goal
use Rattle.table_locks.proofs.meeting.wait_in.Goals.{then-waits_in, else-waits_in}

pub loop-i-init : goal.loop-i-init
loop-i-init g c = record {
  wants_in = none_below (λ (t : OpenTicket). t.number ≡ c.args.xid → WantsIn c.args.part.now.number t) c.args.tickets.now;
  told = none_still c.args.tickets.now c.args.xid;
  part = refl;
  tickets = refl;
}

pub waits_in-requires : goal.waits_in-requires
waits_in-requires g c = record {
  kept = subst (IsKept g.N.StoreNames.shares g.N.StoreNames.schema g.N.StoreNames.start) (sym c.loop-i.invariant.part) c.requires.kept;
}

pub returns-clause-wants : goal.returns-clause-wants
returns-clause-wants g c =
    let l = c.loop-i in
    let long : length l.tickets ≡ length c.args.tickets.now = ap length l.invariant.tickets in
    let ends : l.i ≡ length l.tickets = search rules in
    each_of (λ (t : OpenTicket). t.number ≡ c.args.xid → WantsIn c.args.part.now.number t) c.args.tickets.now l.i (omega (arith, ends, long)) l.invariant.wants_in

pub returns-clause-told : goal.returns-clause-told
returns-clause-told g c =
    let l = c.loop-i in
    let long : length l.tickets ≡ length c.args.tickets.now = ap length l.invariant.tickets in
    let ends : l.i ≡ length l.tickets = search rules in
    all_still c.args.tickets.now c.args.xid l.i (omega (arith, ends, long)) l.wants l.invariant.told

pub loop-i-preserved : goal.loop-i-preserved
loop-i-preserved g c =
    let l = c.loop-i in
    let tickets = c.args.tickets.now in
    let xid = c.args.xid in
    let u : OpenTicket = slice_index_or l.tickets l.i c.index-tickets-i.result in
    let room : l.i < length l.tickets = search rules in
    let at : slice_get tickets l.i ≡ Some u =
    ap (λ (ts : List OpenTicket). slice_get ts l.i) (sym l.invariant.tickets) ∙ slice_get-get_or l.tickets l.i c.index-tickets-i.result room in
    let told : StillBelow tickets xid (l.i + 1) c.if-waits_in.wants =
    elim c.if-waits_in.branch [
      | then-waits_in w ↦
          let some = c.waits_in.ensures.some w.if-waits_in.true in
          subst (StillBelow tickets xid (l.i + 1)) (sym w.wants-is) (l.i, u, at, some.0, some.1)
      | else-waits_in w ↦
          subst (StillBelow tickets xid (l.i + 1)) (sym w.wants-is)
          (one_still tickets xid l.i u at l.wants l.invariant.told (c.waits_in.ensures.none w.if-waits_in.false))
    ] in
    record {
      wants_in =
          one_below (λ (t : OpenTicket). t.number ≡ xid → WantsIn c.args.part.now.number t) tickets l.i u at l.invariant.wants_in
          (λ same. subst (λ (p : Part). WantsIn p.number u) l.invariant.part (c.waits_in.ensures.wants same));
      told = told;
      part = c.waits_in.ensures.part ∙ l.invariant.part;
      tickets = ap (slice_set l.tickets l.i) c.waits_in.ensures.ticket ∙ set-get_or l.tickets l.i c.index-tickets-i.result ∙ l.invariant.tickets;
    }
