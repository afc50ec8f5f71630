use Rattle.std.proofs.Common.{rules, ◌≡◌, ◌<◌, length, slice_index_or, subst}
use Rattle.std.proofs.lemmas.Option.{slice_get-get_or}
use Rattle.parted_store.specs.EachPart.{Progress}
use Rattle.parted_store.specs.Ends.{AbortsShare, Takes}
use Rattle.parted_store.specs.EachPartLemmas.{no_progress, one_step, still_belongs}
use Rattle.parted_store.proofs.ends.abort_each.Goals as goal

pub loop-i-init : goal.loop-i-init
loop-i-init c = no_progress (Takes AbortsShare) c.args.parts.now c.args.shares.now.items

pub abort_share-requires : goal.abort_share-requires
abort_share-requires c =
    let l = c.loop-i in
    let room : l.i < length l.parts = search rules in
    still_belongs (Takes AbortsShare) c.args.parts.now c.args.shares.now.items c.requires.apart l.parts l.shares.items l.i l.invariant
    (slice_index_or l.parts l.i c.index-parts-i.result) (slice_get-get_or l.parts l.i c.index-parts-i.result room) c.requires.belong

pub loop-i-preserved : goal.loop-i-preserved
loop-i-preserved c =
    let l = c.loop-i in
    let room : l.i < length l.parts = search rules in
    one_step (Takes AbortsShare) c.args.parts.now c.args.shares.now.items c.requires.apart l.parts l.shares.items l.i l.invariant
    (slice_index_or l.parts l.i c.index-parts-i.result) (slice_get-get_or l.parts l.i c.index-parts-i.result room)
    c.abort_share.new.part c.abort_share.new.shares.items (c.abort_share.ensures.aborts, c.abort_share.ensures.takes.0) c.abort_share.ensures.takes.1

pub returns : goal.returns
returns c =
    let ends : c.loop-i.i ≡ length c.args.parts.now = search rules in
    subst (λ i. Progress (Takes AbortsShare) c.args.parts.now c.args.shares.now.items c.loop-i.parts c.loop-i.shares.items i) ends c.loop-i.invariant
