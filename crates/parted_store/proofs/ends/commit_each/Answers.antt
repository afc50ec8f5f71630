use Rattle.std.proofs.Common.{rules, arith, ◌≡◌, ◌<◌, ◌∙◌, length, slice_index_or, subst, sym}
use Rattle.std.proofs.lemmas.Option.{slice_get-get_or}
use Rattle.parted_store.specs.EachPart.{Progress}
use Rattle.parted_store.specs.Ends.{CommitsShare, Takes}
use Rattle.parted_store.specs.EachPartLemmas.{no_progress, one_step, still_belongs}
use Rattle.parted_store.proofs.ends.commit_each.Goals as goal

pub loop-i-init : goal.loop-i-init
loop-i-init c = no_progress (Takes (CommitsShare c.args.info)) c.args.parts.now c.args.shares.now.items

pub commit_share-requires-clause-later : goal.commit_share-requires-clause-later
commit_share-requires-clause-later c =
    let l = c.loop-i in
    let room : l.i < length l.parts = search rules in
    c.requires.later l.i (slice_index_or l.parts l.i c.index-parts-i.result) (sym (l.invariant.left l.i (omega arith)) ∙ slice_get-get_or l.parts l.i c.index-parts-i.result room)

pub commit_share-requires-clause-belongs : goal.commit_share-requires-clause-belongs
commit_share-requires-clause-belongs c =
    let l = c.loop-i in
    let room : l.i < length l.parts = search rules in
    still_belongs (Takes (CommitsShare c.args.info)) c.args.parts.now c.args.shares.now.items c.requires.apart l.parts l.shares.items l.i l.invariant
    (slice_index_or l.parts l.i c.index-parts-i.result) (slice_get-get_or l.parts l.i c.index-parts-i.result room) c.requires.belong

pub loop-i-preserved : goal.loop-i-preserved
loop-i-preserved c =
    let l = c.loop-i in
    let room : l.i < length l.parts = search rules in
    one_step (Takes (CommitsShare c.args.info)) c.args.parts.now c.args.shares.now.items c.requires.apart l.parts l.shares.items l.i l.invariant
    (slice_index_or l.parts l.i c.index-parts-i.result) (slice_get-get_or l.parts l.i c.index-parts-i.result room)
    c.commit_share.new.part c.commit_share.new.shares.items (c.commit_share.ensures.commits, c.commit_share.ensures.takes.0) c.commit_share.ensures.takes.1

pub returns : goal.returns
returns c =
    let ends : c.loop-i.i ≡ length c.args.parts.now = search rules in
    subst (λ i. Progress (Takes (CommitsShare c.args.info)) c.args.parts.now c.args.shares.now.items c.loop-i.parts c.loop-i.shares.items i) ends c.loop-i.invariant
