use Rattle.std.proofs.Common.{rules, ◌<◌, ◌∷◌, length, slice_index_or}
use Rattle.std.proofs.lemmas.Option.{slice_get-get_or}
use Rattle.savepoint.specs.Savepoints.{subs_of}
use Rattle.parted_store.specs.Back.{BacksShare}
use Rattle.parted_store.specs.BackLemmas.{kept_so_far}
use Rattle.parted_store.specs.EachPartLemmas.{one_step}
use Rattle.parted_store.proofs.back.back_each.Goals as goal

pub loop-i-preserved : goal.loop-i-preserved
loop-i-preserved c =
    let l = c.loop-i in
    let room : l.i < length l.parts = search rules in (
      one_step (BacksShare (c.args.sub ∷ subs_of c.args.dropped.now)) c.args.parts.now c.args.shares.now.items c.requires.apart l.parts l.shares.items l.i l.invariant.0
          (slice_index_or l.parts l.i c.index-parts-i.result) (slice_get-get_or l.parts l.i c.index-parts-i.result room)
          c.back_share.new.part c.back_share.new.shares.items c.back_share.ensures.back c.back_share.ensures.others,
      kept_so_far c.args.shares.now.items l.shares.items c.back_share.new.shares.items l.invariant.1 (c.args.sub ∷ subs_of c.args.dropped.now)
          (slice_index_or l.parts l.i c.index-parts-i.result) c.back_share.new.part c.back_share.ensures.back c.back_share.ensures.others,
    )
