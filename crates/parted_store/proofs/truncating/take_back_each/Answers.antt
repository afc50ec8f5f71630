use Rattle.std.proofs.Common.{rules, ◌≡◌, ◌<◌, Some, arith, length, slice_index_or}
use Rattle.std.specs.Prelude.{slice_get}
use Rattle.std.proofs.lemmas.Option.{slice_get-get_or}
use Rattle.parted_store.specs.TriedLemmas.{popped, last_part, last_tried, last_belongs, goes_down, undone, none_left}
use Rattle.parted_store.specs.Truncating.{Stands, cut_of}
use Rattle.parted_store.proofs.truncating.take_back_each.Goals as goal

-- the place of the last attempt, and the part there
count : (c : goal.After-take_back_share-arg-1) → c.len.result ≡ length c.pop.new.self.items
count c = search rules

there : (c : goal.After-take_back_share-arg-1) → slice_get c.loop-attempt.parts c.len.result ≡ Some (slice_index_or c.loop-attempt.parts c.len.result c.index-parts-len.result)
there c =
    let (start, all, mark, waits, apart, belong, fits, were) = c.requires.tried in
    let long = (c.loop-attempt.invariant.0 start all mark waits apart were).long in
    let one_less = (popped c.args.tried.items c.loop-attempt.tried.items c.pop.new.self.items c.in-Some.attempt c.in-Some.ensures.items c.loop-attempt.invariant.1).2 in
    let within = c.loop-attempt.invariant.2 in
    let room : c.len.result < length c.loop-attempt.parts = omega (arith, count c, long, fits, one_less, within) in
    slice_get-get_or c.loop-attempt.parts c.len.result c.index-parts-len.result room

pub take_back_share-requires-clause-belongs : goal.take_back_share-requires-clause-belongs
take_back_share-requires-clause-belongs c =
    let (start, all, mark, waits, apart, belong, fits, were) = c.requires.tried in
    last_belongs mark (Stands waits) start all c.loop-attempt.parts c.loop-attempt.shares.items c.args.tried.items c.loop-attempt.tried.items c.pop.new.self.items c.in-Some.attempt
    c.in-Some.ensures.items c.loop-attempt.invariant.1 (c.loop-attempt.invariant.0 start all mark waits apart were) c.len.result (count c)
    (slice_index_or c.loop-attempt.parts c.len.result c.index-parts-len.result) (there c) belong

pub take_back_share-requires-clause-attempted : goal.take_back_share-requires-clause-attempted
take_back_share-requires-clause-attempted c =
    let (start, all, mark, waits, apart, belong, fits, were) = c.requires.tried in
    let q = slice_index_or c.loop-attempt.parts c.len.result c.index-parts-len.result in
    let part = last_part mark (Stands waits) start all c.loop-attempt.parts c.loop-attempt.shares.items c.args.tried.items c.loop-attempt.tried.items c.pop.new.self.items c.in-Some.attempt
    c.in-Some.ensures.items c.loop-attempt.invariant.1 (c.loop-attempt.invariant.0 start all mark waits apart were) c.len.result (count c) q (there c) in
    let its = last_tried mark (Stands waits) start all c.loop-attempt.parts c.loop-attempt.shares.items c.args.tried.items c.loop-attempt.tried.items c.pop.new.self.items c.in-Some.attempt
    c.in-Some.ensures.items c.loop-attempt.invariant.1 (c.loop-attempt.invariant.0 start all mark waits apart were) c.len.result (count c) q (there c) in
    (part.0, its.0, mark, cut_of part.0, its.2)

pub loop-attempt-preserved : goal.loop-attempt-preserved
loop-attempt-preserved c =
    let one_less = popped c.args.tried.items c.loop-attempt.tried.items c.pop.new.self.items c.in-Some.attempt c.in-Some.ensures.items c.loop-attempt.invariant.1 in
    let within = c.loop-attempt.invariant.2 in
    let count : c.len.result ≡ length c.pop.new.self.items = search rules in
    let room : c.len.result < length c.loop-attempt.parts =
    (let (start, all, mark, waits, apart, belong, fits, were) = c.requires.tried in let long = (c.loop-attempt.invariant.0 start all mark waits apart were).long in omega (arith, count, long, fits, one_less.2, within)) in
    let q = slice_index_or c.loop-attempt.parts c.len.result c.index-parts-len.result in (
      λ start all mark waits apart were.
          goes_down mark (Stands waits) start all c.loop-attempt.parts c.loop-attempt.shares.items c.args.tried.items c.loop-attempt.tried.items c.pop.new.self.items c.in-Some.attempt
          c.in-Some.ensures.items c.loop-attempt.invariant.1 (c.loop-attempt.invariant.0 start all mark waits apart were) c.len.result count q (slice_get-get_or c.loop-attempt.parts c.len.result c.index-parts-len.result room)
          apart c.take_back_share.new.part c.take_back_share.new.shares.items c.take_back_share.ensures.same c.take_back_share.ensures.others
          (λ p same is told.
          undone mark p q same c.args.tried.items c.len.result c.in-Some.attempt told all c.loop-attempt.shares.items is waits c.take_back_share.new.part
          c.take_back_share.new.shares.items c.take_back_share.ensures.same (λ s had. c.take_back_share.ensures.left p s mark (cut_of p) had)),
      one_less.1,
      omega (arith, one_less.2, within),
    )

pub returns : goal.returns
returns c = λ start all mark waits apart were.
    none_left mark (Stands waits) start all c.loop-attempt.parts c.loop-attempt.shares.items c.args.tried.items c.loop-attempt.tried.items (search rules)
    (c.loop-attempt.invariant.0 start all mark waits apart were)
