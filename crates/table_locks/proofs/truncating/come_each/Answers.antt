use Rattle.std.proofs.Common.{rules, ◌≡◌, ◌<◌, ◌∙◌, Some, length, slice_index_or, refl, sym, subst}
use Rattle.std.specs.Prelude.{slice_get}
use Rattle.std.proofs.lemmas.Option.{slice_get-get_or, slice_get_within}
use Rattle.table_parts.specs.Part.{Part}
use Rattle.table_locks.specs.TruncatingLemmas.{kept_behind, known_behind, come_none, come_more, still_more}
use Rattle.table_locks.specs.declared.ticket.Waits.TheVariants.{Somewhere}
use Rattle.table_locks.proofs.truncating.come_each.Goals as goal

pub loop-i-init : goal.loop-i-init
loop-i-init g c = (
  come_none g.N.StoreNames.shares g.N.StoreNames.tables g.N.StoreNames.schema g.N.StoreNames.start c.args.lent.now c.args.ticket.now.shares c.requires.kept,
  λ waits is. is,
  refl,
  refl,
)

pub come_boxed-requires-clause-kept : goal.come_boxed-requires-clause-kept
come_boxed-requires-clause-kept g c =
    let l = c.loop-i in
    let room : l.i < length l.lent = search rules in
    kept_behind g.N.StoreNames.shares g.N.StoreNames.tables g.N.StoreNames.schema g.N.StoreNames.start c.args.lent.now l.lent l.invariant.0.still l.i
    (slice_index_or l.lent l.i c.index-lent-i.result) (slice_get-get_or l.lent l.i c.index-lent-i.result room)

pub come_boxed-requires-clause-known : goal.come_boxed-requires-clause-known
come_boxed-requires-clause-known g c =
    let l = c.loop-i in
    let room : l.i < length l.lent = search rules in
    known_behind g.N.StoreNames.shares g.N.StoreNames.tables g.N.StoreNames.schema g.N.StoreNames.start c.args.lent.now l.lent l.invariant.0.still c.requires.known l.i
    (slice_index_or l.lent l.i c.index-lent-i.result) (slice_get-get_or l.lent l.i c.index-lent-i.result room)

pub come_boxed-requires-clause-ticket : goal.come_boxed-requires-clause-ticket
come_boxed-requires-clause-ticket g c = c.loop-i.invariant.1 Somewhere c.requires.ticket

pub returns-in_err-come_boxed-clause-still : goal.returns-in_err-come_boxed-clause-still
returns-in_err-come_boxed-clause-still g c =
    let l = c.loop-i in
    let room : l.i < length l.lent = search rules in
    let q : Part = slice_index_or l.lent l.i c.index-lent-i.result in
    let at : slice_get l.lent l.i ≡ Some q = slice_get-get_or l.lent l.i c.index-lent-i.result room in
    still_more g.N.StoreNames.shares g.N.StoreNames.tables g.N.StoreNames.schema g.N.StoreNames.start c.args.lent.now c.requires.kept l.i l.lent l.ticket.shares
    l.invariant.0 q at c.come_boxed.new.part c.come_boxed.ensures.fits c.come_boxed.ensures.sound

pub loop-i-preserved : goal.loop-i-preserved
loop-i-preserved g c =
    let l = c.loop-i in
    let room : l.i < length l.lent = search rules in
    let q : Part = slice_index_or l.lent l.i c.index-lent-i.result in
    let at : slice_get l.lent l.i ≡ Some q = slice_get-get_or l.lent l.i c.index-lent-i.result room in
    let one = c.come_boxed.ensures in (
      come_more g.N.StoreNames.shares g.N.StoreNames.tables g.N.StoreNames.schema g.N.StoreNames.start c.args.lent.now c.requires.kept l.i l.lent l.ticket.shares
          l.invariant.0 q at c.come_boxed.new.part one.fits one.sound c.requires.apart c.come_boxed.new.ticket.shares one.others c.in_ok-come_boxed.ensures.share
          c.in_ok-come_boxed.ensures.stands,
      λ waits is. one.is waits (l.invariant.1 waits is),
      one.events ∙ l.invariant.2,
      one.xid ∙ l.invariant.3,
    )

pub returns-clause-still : goal.returns-clause-still
returns-clause-still g c = c.loop-i.invariant.0.still

pub returns-clause-alone : goal.returns-clause-alone
returns-clause-alone g c i p at =
    let l = c.loop-i in
    let ends : l.i ≡ length l.lent = search rules in
    l.invariant.0.alone i p (subst (λ n. i < n) (sym ends) (slice_get_within l.lent i p at)) at

pub returns-clause-stand : goal.returns-clause-stand
returns-clause-stand g c i p at =
    let l = c.loop-i in
    let ends : l.i ≡ length l.lent = search rules in
    l.invariant.0.stand i p (subst (λ n. i < n) (sym ends) (slice_get_within l.lent i p at)) at
