use Rattle.std.proofs.Common.{◌≡◌, ◌≢◌, ◌<◌, ℕ, suc, Bool, true, false, List, [], length, refl, sym, ap, subst, ◌∙◌, arith}
use Rattle.std.specs.Prelude.{All, Contains, Option, if◌then◌else◌, option_to_list}
use Rattle.std.specs.Map.{keys_of}
use Rattle.model.specs.declared.cell.Cell.{Cell}
use Rattle.model.specs.declared.change.Change.{Change}
use Rattle.model.specs.declared.row.Row.{Row}
use Rattle.model.specs.Rows.{Place, Schema}
use Rattle.change.specs.declared.inverse.Inverse.{Inverse}
use Rattle.change.specs.Footprint.{looked_row, footprint_at}
use Rattle.undo.specs.Next.{next_row, has_next}
use Rattle.keyholds.specs.Holds.{holds_of, cells_held, with_holds, IsFreeCell}
use Rattle.live_tables.specs.declared.before_image.BeforeImage.{BeforeImage}
use Rattle.live_tables.specs.declared.row_source.RowSource.TheVariants.{Next}
use Rattle.live_tables.specs.BeforeImages.{LiveHolds, AreToStand}
use Rattle.live_tables.specs.RowSource.{row_read}
use Rattle.live_tables.specs.MadeHolds.{inverse_at, TakesNext}
use Rattle.live_tables.proofs.made.take_next.Goals as goal

-- an inverse can be asked for any place
pub with_before_images-requires : goal.with_before_images-requires
with_before_images-requires c = record { known = λ i d below. tt }

-- each cell is free where no other transaction holds one
free_alone : (held : LiveHolds) (xid : ℕ) → ((other : ℕ) → other ≢ xid → holds_of held other ≡ []) → (cells : List Cell) → All (IsFreeCell (cells_held held) xid) cells
free_alone held xid alone cells i d below other cell differs its =
    absurd (omega (arith, (subst (λ (pairs : List (Cell × BeforeImage)). Contains (keys_of pairs) cell) (alone other differs) its).1))

-- what is taken, by the row that is read in the next inverse
takes : (schema : Schema) (is : List Inverse) (xid count : ℕ) (c : Change) (read : Place → Option Row) → read ≡ next_row (inverse_at is count)
    → (old new : ℕ → List (Cell × BeforeImage)) (more : List (Cell × BeforeImage)) → keys_of more ≡ footprint_at schema c (looked_row c read)
    → AreToStand read count (keys_of (old xid)) more → new xid ≡ with_holds (old xid) more
    → (own : Bool) → own ≡ has_next c (looked_row c read) → (n : ℕ) → n ≡ (if own then suc count else count)
    → TakesNext schema is xid count c old new n
takes schema is xid count c read same old new more cells stand held own is_own n counted = record {
  more = more;
  its = cells ∙ ap (λ (at : Place → Option Row). footprint_at schema c (looked_row c at)) same;
  stand = subst (λ (at : Place → Option Row). AreToStand at count (keys_of (old xid)) more) same stand;
  own = held;
  counted = counted ∙ ap (λ (b : Bool). if b then suc count else count) (is_own ∙ ap (λ (at : Place → Option Row). has_next c (looked_row c at)) same);
}

pub returns-then-is_own-clause-ok : goal.returns-then-is_own-clause-ok
returns-then-is_own-clause-ok c =
    let is = c.args.record.now.log.inverses in
    let change = c.args.c.now in
    let read = row_read (Next c.inverse_at-next.result) in
    let same : read ≡ next_row (inverse_at is c.args.count) = ap (λ i. next_row (option_to_list i)) c.inverse_at-next.ensures in
    let own : true ≡ has_next change (looked_row change read) = sym c.if-is_own.true ∙ c.has_next-is_own.ensures ∙ ap (has_next change) c.row_looked_up-old.ensures in
    let below : c.args.count < length is = c.requires.within (sym (own ∙ ap (λ at. has_next change (looked_row change at)) same)) in
    takes c.args.tables.now.schema is c.args.xid c.args.count change read same (holds_of c.args.holds.now) (holds_of c.take.new.self) c.in_ok-more.more.items
    (c.in_ok-more.ensures.cells ∙ c.in_ok-cells.ensures ∙ ap (footprint_at c.args.tables.now.schema change) c.row_looked_up-old.ensures)
    (c.in_ok-more.ensures.stand c.args.xid (free_alone c.args.holds.now c.args.xid c.requires.alone c.in_ok-cells.cells.items))
    c.in_ok-take.ensures.ok true own c.saturating_add.result (omega (arith, below))

pub returns-clause-ok : goal.returns-clause-ok
returns-clause-ok c =
    let change = c.args.c.now in
    let read = row_read (Next c.inverse_at-next.result) in
    takes c.args.tables.now.schema c.args.record.now.log.inverses c.args.xid c.args.count change read (ap (λ i. next_row (option_to_list i)) c.inverse_at-next.ensures)
    (holds_of c.args.holds.now) (holds_of c.take.new.self) c.in_ok-more.more.items
    (c.in_ok-more.ensures.cells ∙ c.in_ok-cells.ensures ∙ ap (footprint_at c.args.tables.now.schema change) c.row_looked_up-old.ensures)
    (c.in_ok-more.ensures.stand c.args.xid (free_alone c.args.holds.now c.args.xid c.requires.alone c.in_ok-cells.cells.items))
    c.in_ok-take.ensures.ok false (sym c.if-is_own.false ∙ c.has_next-is_own.ensures ∙ ap (has_next change) c.row_looked_up-old.ensures) c.args.count refl
