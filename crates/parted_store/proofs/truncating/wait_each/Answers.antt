use Rattle.std.proofs.Common.{rules, ◌≡◌, ◌<◌, ◌∙◌, arith, length, slice_index_or, sym, ap, subst}
use Rattle.std.proofs.Math.Seq.{take-length}
use Rattle.std.proofs.lemmas.List.{length-map}
use Rattle.std.proofs.lemmas.Option.{slice_get-get_or}
use Rattle.model.specs.declared.change.Change.{Change}
use Rattle.model.specs.Named.{NamesTables}
use Rattle.parted_store.specs.TriedLemmas.{popped}
use Rattle.parted_store.specs.Truncating.{cut_of}
use Rattle.parted_store.specs.WaitingLemmas.{still_there, still_belongs, still_named, its_part, its_same, its_stands, its_cut, waits_down, none_waits, all_wait}
use Rattle.parted_store.proofs.truncating.wait_each.Goals as goal

pub loop-cut-init : goal.loop-cut-init
loop-cut-init c = (
  λ start all apart are can were. none_waits start all c.args.parts.now c.args.shares.now.items c.args.cuts.items are were,
  sym (take-length c.args.cuts.items),
  omega arith,
)

pub wait_share-requires-clause-belongs : goal.wait_share-requires-clause-belongs
wait_share-requires-clause-belongs c =
    let (start, all, apart, belong, are, can, were) = c.requires.waits in
    let inv = c.loop-cut.invariant in
    let now_were = inv.0 start all apart are can were in
    let one_less = (popped c.args.cuts.items c.loop-cut.cuts.items c.pop.new.self.items c.in-Some.cut c.in-Some.ensures.items inv.1).2 in
    let long = now_were.long in
    let within = inv.2 in
    let as_many = ap length are ∙ length-map start cut_of in
    let count : c.len.result ≡ length c.pop.new.self.items = search rules in
    let room : c.len.result < length c.loop-cut.parts = omega (arith, count, long, as_many, one_less, within) in
    let q = slice_index_or c.loop-cut.parts c.len.result c.index-parts-len.result in
    let at = slice_get-get_or c.loop-cut.parts c.len.result c.index-parts-len.result room in
    let part = its_part start all c.loop-cut.parts c.loop-cut.shares.items c.args.cuts.items c.loop-cut.cuts.items c.pop.new.self.items c.in-Some.cut c.in-Some.ensures.items inv.1 are now_were c.len.result count q at in
    let same = its_same start all c.loop-cut.parts c.loop-cut.shares.items c.args.cuts.items c.loop-cut.cuts.items c.pop.new.self.items c.in-Some.cut c.in-Some.ensures.items inv.1 are now_were c.len.result count q at part.0 part.1 in
    let stands = its_stands start all c.loop-cut.parts c.loop-cut.shares.items c.args.cuts.items c.loop-cut.cuts.items c.pop.new.self.items c.in-Some.cut c.in-Some.ensures.items inv.1 are now_were c.len.result count q at part.0 part.1 in
    still_belongs part.0 q same all c.loop-cut.shares.items c.len.result stands (can c.len.result part.0 part.1) (belong c.len.result part.0 part.1)

pub wait_share-requires-clause-share : goal.wait_share-requires-clause-share
wait_share-requires-clause-share c =
    let (start, all, apart, belong, are, can, were) = c.requires.waits in
    let inv = c.loop-cut.invariant in
    let now_were = inv.0 start all apart are can were in
    let one_less = (popped c.args.cuts.items c.loop-cut.cuts.items c.pop.new.self.items c.in-Some.cut c.in-Some.ensures.items inv.1).2 in
    let long = now_were.long in
    let within = inv.2 in
    let as_many = ap length are ∙ length-map start cut_of in
    let count : c.len.result ≡ length c.pop.new.self.items = search rules in
    let room : c.len.result < length c.loop-cut.parts = omega (arith, count, long, as_many, one_less, within) in
    let q = slice_index_or c.loop-cut.parts c.len.result c.index-parts-len.result in
    let at = slice_get-get_or c.loop-cut.parts c.len.result c.index-parts-len.result room in
    let part = its_part start all c.loop-cut.parts c.loop-cut.shares.items c.args.cuts.items c.loop-cut.cuts.items c.pop.new.self.items c.in-Some.cut c.in-Some.ensures.items inv.1 are now_were c.len.result count q at in
    let same = its_same start all c.loop-cut.parts c.loop-cut.shares.items c.args.cuts.items c.loop-cut.cuts.items c.pop.new.self.items c.in-Some.cut c.in-Some.ensures.items inv.1 are now_were c.len.result count q at part.0 part.1 in
    let stands = its_stands start all c.loop-cut.parts c.loop-cut.shares.items c.args.cuts.items c.loop-cut.cuts.items c.pop.new.self.items c.in-Some.cut c.in-Some.ensures.items inv.1 are now_were c.len.result count q at part.0 part.1 in
    still_there part.0 q same all c.loop-cut.shares.items c.len.result stands (can c.len.result part.0 part.1)

pub wait_share-requires-clause-names : goal.wait_share-requires-clause-names
wait_share-requires-clause-names c =
    let (start, all, apart, belong, are, can, were) = c.requires.waits in
    let inv = c.loop-cut.invariant in
    let now_were = inv.0 start all apart are can were in
    let one_less = (popped c.args.cuts.items c.loop-cut.cuts.items c.pop.new.self.items c.in-Some.cut c.in-Some.ensures.items inv.1).2 in
    let long = now_were.long in
    let within = inv.2 in
    let as_many = ap length are ∙ length-map start cut_of in
    let count : c.len.result ≡ length c.pop.new.self.items = search rules in
    let room : c.len.result < length c.loop-cut.parts = omega (arith, count, long, as_many, one_less, within) in
    let q = slice_index_or c.loop-cut.parts c.len.result c.index-parts-len.result in
    let at = slice_get-get_or c.loop-cut.parts c.len.result c.index-parts-len.result room in
    let part = its_part start all c.loop-cut.parts c.loop-cut.shares.items c.args.cuts.items c.loop-cut.cuts.items c.pop.new.self.items c.in-Some.cut c.in-Some.ensures.items inv.1 are now_were c.len.result count q at in
    let same = its_same start all c.loop-cut.parts c.loop-cut.shares.items c.args.cuts.items c.loop-cut.cuts.items c.pop.new.self.items c.in-Some.cut c.in-Some.ensures.items inv.1 are now_were c.len.result count q at part.0 part.1 in
    let stands = its_stands start all c.loop-cut.parts c.loop-cut.shares.items c.args.cuts.items c.loop-cut.cuts.items c.pop.new.self.items c.in-Some.cut c.in-Some.ensures.items inv.1 are now_were c.len.result count q at part.0 part.1 in
    subst (λ (d : Change). NamesTables (length q.store.schema) d) (sym (its_cut start all c.loop-cut.parts c.loop-cut.shares.items c.args.cuts.items c.loop-cut.cuts.items c.pop.new.self.items c.in-Some.cut c.in-Some.ensures.items inv.1 are now_were c.len.result count q at part.0 part.1))
    (still_named part.0 q same all c.loop-cut.shares.items c.len.result stands (can c.len.result part.0 part.1))

pub loop-cut-preserved : goal.loop-cut-preserved
loop-cut-preserved c =
    let (start, all, apart, belong, are, can, were) = c.requires.waits in
    let inv = c.loop-cut.invariant in
    let now_were = inv.0 start all apart are can were in
    let one_less = (popped c.args.cuts.items c.loop-cut.cuts.items c.pop.new.self.items c.in-Some.cut c.in-Some.ensures.items inv.1).2 in
    let long = now_were.long in
    let within = inv.2 in
    let as_many = ap length are ∙ length-map start cut_of in
    let count : c.len.result ≡ length c.pop.new.self.items = search rules in
    let room : c.len.result < length c.loop-cut.parts = omega (arith, count, long, as_many, one_less, within) in
    let q = slice_index_or c.loop-cut.parts c.len.result c.index-parts-len.result in
    let at = slice_get-get_or c.loop-cut.parts c.len.result c.index-parts-len.result room in
    let left = popped c.args.cuts.items c.loop-cut.cuts.items c.pop.new.self.items c.in-Some.cut c.in-Some.ensures.items inv.1 in (
      λ first shares_then apart_then are_then can_then were_then.
          waits_down first shares_then c.loop-cut.parts c.loop-cut.shares.items c.args.cuts.items c.loop-cut.cuts.items c.pop.new.self.items c.in-Some.cut c.in-Some.ensures.items inv.1 are_then
          (inv.0 first shares_then apart_then are_then can_then were_then) c.len.result count q at apart_then can_then c.args.mark c.wait_share.new.part c.wait_share.new.shares.items
          c.wait_share.ensures.same c.wait_share.ensures.others c.wait_share.ensures.waits,
      left.1,
      omega (arith, one_less, within),
    )

pub returns : goal.returns
returns c = λ start all apart are can were.
    all_wait start all c.loop-cut.parts c.loop-cut.shares.items c.loop-cut.cuts.items (search rules) (c.loop-cut.invariant.0 start all apart are can were)
