use Rattle.std.proofs.Common.{◌≡◌, Some, ap, refl, subst, sym, inl, inr, ◌∙◌}
use Rattle.std.proofs.lemmas.Bool.{cases_Bool}
use Rattle.std.specs.Prelude.{option_map}
use Rattle.model.specs.declared.item.Item.TheVariants.{BackTo}
use Rattle.model.specs.ValidLemmas.{not_none}
use Rattle.keyholds.specs.Holds.{holds_of, cells_held}
use Rattle.savepoint.specs.declared.mark.Mark.{Mark}
use Rattle.savepoint.specs.Savepoints.{mark_at}
use Rattle.savepoint.specs.Record.{Record}
use Rattle.world.specs.FineLemmas.{same_some}
use Rattle.world.specs.Steps.{done_with}
use Rattle.live_tables.specs.BackToLemmas.{can_since}
use Rattle.live_tables.specs.declared.transaction.OpenTransaction.{OpenTransaction}
use Rattle.live_tables.specs.declared.live_tables.Live.{Live}
use Rattle.live_tables.specs.CellLemmas.{before_image_is_held}
use Rattle.live_tables.specs.ReleasedLemmas.{are_released, lets_go_free, tied_released}
use Rattle.live_tables.specs.Released.{IsLetGo, AreReleased}
use Rattle.live_tables.specs.BasicLemmas.{writes_by_borrow}
use Rattle.live_tables.specs.ByHoldsLemmas.{by_holds, from_holds, never_absent, open_can, open_tells}
use Rattle.live_tables.specs.LoneLemmas.{lone_back}
use Rattle.live_tables.specs.EndedLemmas.{tied_back, before_image_since, before_image_still}
use Rattle.live_tables.proofs.live_tables.Live.back_to.Goals as goal

pub unreachable-requires : goal.unreachable-requires
unreachable-requires c = never_absent c.args.self.now c.args.xid c.requires c.in_default.ensures.value

pub go_back-requires-clause-can_undo : goal.go_back-requires-clause-can_undo
go_back-requires-clause-can_undo c =
    let (w, o, tied, is) = c.requires in
    let store = c.args.self.now in
    let old = c.in-Some.transaction.now in
    can_since store.tables c.args.sub old.record (open_can w store tied c.args.xid o is old (sym c.in-Some.ensures.value))

pub go_back-requires-clause-named : goal.go_back-requires-clause-named
go_back-requires-clause-named c =
    let (w, o, tied, is) = c.requires in
    (open_tells w c.args.self.now tied c.args.xid o is c.in-Some.transaction.now (sym c.in-Some.ensures.value)).named

pub returns-in-Some-go_back-clause-tied : goal.returns-in-Some-go_back-clause-tied
returns-in-Some-go_back-clause-tied c =
    let store = c.args.self.now in
    let old = c.in-Some.transaction.now in
    let left = c.go_back.new.self in
    let after = c.get_mut.follows.lender left in
    let came = c.go_back.ensures in
    let let_go = c.let_go.ensures in
    let mark = c.in-Some-go_back.mark in
    λ w o tied is.
    let n : Live = record { tables = c.go_back.new.tables; holds = c.let_go.new.holds; made = store.made; transactions = after; stopped = store.stopped } in
    elim (cases_Bool store.made) [
      | inl made ↦
          let held = by_holds w store tied made in
          from_holds (done_with w c.args.xid o (BackTo c.args.sub)) (record n { tables = c.let_go.new.tables })
          (tied_released (done_with w c.args.xid o (BackTo c.args.sub)) n
          (tied_back w store held c.args.xid o is old left n
          (writes_by_borrow c.args.xid old left store.transactions after (sym c.in-Some.ensures.value) (c.get_mut.follows.holds left))
          c.args.sub came.more came.back
          (before_image_since store.holds c.let_go.new.holds c.args.xid mark _ c.in-Some-go_back.ensures.mark let_go.own let_go.others)
          refl)
          (IsLetGo mark.held (cells_held store.holds c.args.xid)) c.let_go.new.tables let_go.released let_go.room
          (lets_go_free w store held c.args.xid o is mark.held (cells_held c.let_go.new.holds)
          (before_image_is_held.back (holds_of store.holds) c.args.xid (Some mark) (holds_of c.let_go.new.holds) (record { here = let_go.own; beside = let_go.others }))))
          made
      -- one that is alone has no savepoint
      | inr alone ↦
          absurd (not_none mark (sym (ap (mark_at c.args.sub)
          ((tied.lone alone).unmarked c.args.xid old.record (ap (option_map (λ (k : OpenTransaction). k.record)) (sym c.in-Some.ensures.value)))) ∙ sym c.in-Some-go_back.ensures.mark))
    ]

pub returns-in-Some-go_back-clause-released : goal.returns-in-Some-go_back-clause-released
returns-in-Some-go_back-clause-released c = λ r m at marked.
    let store = c.args.self.now in
    let old = c.in-Some.transaction.now in
    let its : old.record ≡ r = same_some old.record r (ap (option_map (λ (k : OpenTransaction). k.record)) c.in-Some.ensures.value ∙ at) in
    let same : c.in-Some-go_back.mark ≡ m =
    same_some c.in-Some-go_back.mark m (c.in-Some-go_back.ensures.mark ∙ ap (λ (s : Record). mark_at c.args.sub s.marks) its ∙ marked) in
    subst (λ (n : Mark). AreReleased n.held (cells_held store.holds c.args.xid) c.let_go.new.tables) same
    (are_released c.in-Some-go_back.mark.held (cells_held store.holds c.args.xid) c.go_back.new.tables c.let_go.new.tables c.let_go.ensures.released)

pub returns-in-Some-go_back-clause-schema : goal.returns-in-Some-go_back-clause-schema
returns-in-Some-go_back-clause-schema c = c.let_go.ensures.released.schema ∙ c.go_back.ensures.back.schema_is

pub returns-in_default-go_back-clause-released : goal.returns-in_default-go_back-clause-released
returns-in_default-go_back-clause-released c = λ r m at marked.
    let old = c.in-Some.transaction.now in
    let its : old.record ≡ r = same_some old.record r (ap (option_map (λ (k : OpenTransaction). k.record)) c.in-Some.ensures.value ∙ at) in
    absurd (not_none m (c.in_default-go_back.ensures.mark ∙ ap (λ (s : Record). mark_at c.args.sub s.marks) its ∙ marked))

pub returns-in_default-go_back-clause-tied : goal.returns-in_default-go_back-clause-tied
returns-in_default-go_back-clause-tied c =
    let store = c.args.self.now in
    let old = c.in-Some.transaction.now in
    let left = c.go_back.new.self in
    let after = c.get_mut.follows.lender left in
    let came = c.go_back.ensures in
    let writes = writes_by_borrow c.args.xid old left store.transactions after (sym c.in-Some.ensures.value) (c.get_mut.follows.holds left) in
    λ w o tied is.
    let n : Live = record { tables = c.go_back.new.tables; holds = store.holds; made = store.made; transactions = after; stopped = store.stopped } in
    elim (cases_Bool store.made) [
      | inl made ↦
          from_holds (done_with w c.args.xid o (BackTo c.args.sub)) n
          (tied_back w store (by_holds w store tied made) c.args.xid o is old left n writes c.args.sub came.more came.back
          (before_image_still store.holds c.args.xid _ c.in_default-go_back.ensures.mark) refl)
          made
      | inr alone ↦ lone_back w store tied alone c.args.xid o is old left n writes refl refl came.back.schema_is c.args.sub came.more came.back refl
    ]
