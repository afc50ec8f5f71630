use Rattle.std.proofs.Common.{◌≡◌, ◌+◌, ◌++◌, ◌∷◌, [], ℕ, List, All, length, take, drop, sym, ap, subst, ◌∙◌, arith, get_or, ◌<◌}
use Rattle.std.proofs.Math.Seq.{take-length, drop-length}
use Rattle.std.proofs.lemmas.List.{take_more, drop_more}
use Rattle.model.specs.declared.item.Item.{Item}
use Rattle.model.specs.Named.{NamesTables}
use Rattle.model.specs.Rows.{Rows}
use Rattle.model.specs.Survivors.{changes_of}
use Rattle.undo.specs.LogOf.{IsLogOf}
use Rattle.keyholds.specs.Holds.{holds_of}
use Rattle.live_tables.specs.MadeHolds.{IsMadeOf, IsSoFar}
use Rattle.live_tables.specs.BeforeImages.{LiveHolds}
use Rattle.live_tables.specs.MadeHoldsLemmas.{so_far_all}
use Rattle.live_tables.proofs.Making.{its_tables, has_inverse, change_taken, other_next, so_far_none}
use Rattle.live_tables.proofs.made.make_holds.Goals as goal
use Rattle.live_tables.proofs.made.make_holds.Goals.{Joined-item, in-Change+in_ok-count-in-Change, in-Touch, in-BackTo, in-Last}

behind : (items : List Item) (k : ℕ) (item : Item) → k < length items → item ≡ get_or items k item → drop k items ≡ item ∷ drop (k + 1) items
behind items k item below is = drop_more items k item below ∙ ap (λ (i : Item). i ∷ drop (k + 1) items) (sym is)

more : (items : List Item) (k : ℕ) (item : Item) → k < length items → item ≡ get_or items k item → take (k + 1) items ≡ take k items ++ item ∷ []
more items k item below is = take_more items k item below ∙ ap (λ (i : Item). take k items ++ i ∷ []) (sym is)

pub take_next-requires-clause-names : goal.take_next-requires-clause-names
take_next-requires-clause-names c =
    let items = c.survivors-items.result.now in
    its_tables items c.loop-item.item-index c.item-item.result (behind items c.loop-item.item-index c.item-item.result c.loop-item-test.true c.item-item.is)
    (more items c.loop-item.item-index c.item-item.result c.loop-item-test.true c.item-item.is) (length c.args.tables.now.schema) c.in-Change.sub c.in-Change.change c.in-Change.is
    (subst (λ (l : List Item). All (NamesTables (length c.args.tables.now.schema)) (changes_of l)) (sym c.survivors-items.ensures) c.requires.names)

pub take_next-requires-clause-within : goal.take_next-requires-clause-within
take_next-requires-clause-within c =
    let items = c.survivors-items.result.now in
    has_inverse items c.loop-item.item-index c.item-item.result (behind items c.loop-item.item-index c.item-item.result c.loop-item-test.true c.item-item.is)
    (more items c.loop-item.item-index c.item-item.result c.loop-item-test.true c.item-item.is) c.args.tables.now.schema c.requires.log.0 c.args.record.now.log.inverses c.args.xid c.loop-item.count
    c.in-Change.sub c.in-Change.change c.in-Change.is (holds_of c.loop-item.holds c.args.xid)
    (c.loop-item.invariant.far c.requires.log.0
    (subst (λ (l : List Item). IsLogOf c.args.tables.now.schema c.requires.log.0 (changes_of l) c.args.record.now.log.inverses) (sym c.survivors-items.ensures) c.requires.log.1))

pub loop-item-init : goal.loop-item-init
loop-item-init c = record {
  far = λ committed log.
      so_far_none c.args.tables.now.schema committed (changes_of c.survivors-items.result.now) c.args.record.now.log.inverses (holds_of c.new-holds.result c.args.xid)
      (c.new-holds.ensures c.args.xid) log;
  alone = λ other differs. c.new-holds.ensures other;
  same = c.survivors-items.ensures;
}

-- what is so far, of these holds and this count
module _ (c : Joined-item) (committed : Rows) where
  abbrev FarBehind : LiveHolds → ℕ → Type 0
  FarBehind holds count =
      IsSoFar c.args.tables.now.schema committed (changes_of (take (c.loop-item.item-index + 1) c.survivors-items.result.now))
      (changes_of (drop (c.loop-item.item-index + 1) c.survivors-items.result.now)) c.args.record.now.log.inverses count (holds_of holds c.args.xid)

  far_as : (holds now : LiveHolds) (count n : ℕ) → now ≡ holds → n ≡ count → FarBehind holds count → FarBehind now n
  far_as holds now count n same counts far = subst (λ (h : LiveHolds). FarBehind h n) (sym same) (subst (FarBehind holds) (sym counts) far)

pub loop-item-preserved : goal.loop-item-preserved
loop-item-preserved c =
    let items = c.survivors-items.result.now in
    let k = c.loop-item.item-index in
    let item = c.item-item.result in
    let back = behind items k item c.loop-item-test.true c.item-item.is in
    let front = more items k item c.loop-item-test.true c.item-item.is in
    let schema = c.args.tables.now.schema in
    let is = c.args.record.now.log.inverses in
    record {
      far = λ committed log.
          let far = c.loop-item.invariant.far committed log in
          elim c.match-item.branch [
            | in-Change+in_ok-count-in-Change w ↦
                far_as c committed w.take_next.new.holds c.match-item.holds w.in_ok-count-in-Change.count c.match-item.count w.holds-is w.count-is
                (change_taken items k item back front schema committed is c.args.xid c.loop-item.count w.in-Change.sub w.in-Change.change w.in-Change.is
                w.in_ok-count-in-Change.count (holds_of c.loop-item.holds) (holds_of w.take_next.new.holds) far w.in_ok-count-in-Change.ensures.ok)
            | in-Touch w ↦
                far_as c committed c.loop-item.holds c.match-item.holds c.loop-item.count c.match-item.count w.holds-is w.count-is
                (other_next items k item back front schema committed is c.args.xid c.loop-item.count (ap (λ (i : Item). changes_of (i ∷ [])) w.in-Touch.is) (holds_of c.loop-item.holds c.args.xid) far)
            | in-BackTo w ↦
                far_as c committed c.loop-item.holds c.match-item.holds c.loop-item.count c.match-item.count w.holds-is w.count-is
                (other_next items k item back front schema committed is c.args.xid c.loop-item.count (ap (λ (i : Item). changes_of (i ∷ [])) w.in-BackTo.is) (holds_of c.loop-item.holds c.args.xid) far)
            | in-Last w ↦
                far_as c committed c.loop-item.holds c.match-item.holds c.loop-item.count c.match-item.count w.holds-is w.count-is
                (other_next items k item back front schema committed is c.args.xid c.loop-item.count (ap (λ (i : Item). changes_of (i ∷ [])) w.in-Last.is) (holds_of c.loop-item.holds c.args.xid) far)
          ];
      alone = λ other differs.
          elim c.match-item.branch [
            | in-Change+in_ok-count-in-Change w ↦ ap (λ (h : LiveHolds). holds_of h other) w.holds-is ∙ w.in_ok-count-in-Change.ensures.alone other differs
            | in-Touch w ↦ ap (λ (h : LiveHolds). holds_of h other) w.holds-is ∙ c.loop-item.invariant.alone other differs
            | in-BackTo w ↦ ap (λ (h : LiveHolds). holds_of h other) w.holds-is ∙ c.loop-item.invariant.alone other differs
            | in-Last w ↦ ap (λ (h : LiveHolds). holds_of h other) w.holds-is ∙ c.loop-item.invariant.alone other differs
          ];
      same = c.loop-item.invariant.same;
    }

pub returns-clause-made : goal.returns-clause-made
returns-clause-made c = λ committed log.
    let items = c.survivors-items.result.now in
    let last : c.loop-item.item-index ≡ length items = omega arith in
    let far =
    c.loop-item.invariant.far committed
    (subst (λ (l : List Item). IsLogOf c.args.tables.now.schema committed (changes_of l) c.args.record.now.log.inverses) (sym c.survivors-items.ensures) log) in
    let all = so_far_all c.args.tables.now.schema committed (changes_of items) c.args.record.now.log.inverses c.loop-item.count (holds_of c.loop-item.holds c.args.xid)
    (subst (λ (l : List Item). IsSoFar c.args.tables.now.schema committed (changes_of l) [] c.args.record.now.log.inverses c.loop-item.count (holds_of c.loop-item.holds c.args.xid))
    (ap (λ (n : ℕ). take n items) last ∙ take-length items)
    (subst (λ (l : List Item). IsSoFar c.args.tables.now.schema committed (changes_of (take c.loop-item.item-index items)) (changes_of l) c.args.record.now.log.inverses c.loop-item.count (holds_of c.loop-item.holds c.args.xid))
    (ap (λ (n : ℕ). drop n items) last ∙ drop-length items) far)) in
    subst (λ (l : List Item). IsMadeOf c.args.tables.now.schema committed (changes_of l) c.args.record.now.log.inverses (holds_of c.loop-item.holds c.args.xid)) c.survivors-items.ensures all
