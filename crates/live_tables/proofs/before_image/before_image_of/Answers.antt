use Rattle.std.proofs.Common.{◌≡◌, ℕ, List, Option, Some, None, sym, ◌∙◌, ap, subst}
use Rattle.std.specs.List.{Contains}
use Rattle.model.specs.declared.cell.Cell.{Cell}
use Rattle.model.specs.declared.cell.Cell.TheVariants.{Row, Whole}
use Rattle.model.specs.declared.key.Key.{Key}
use Rattle.model.specs.declared.row.Row.{Row as RecordRow}
use Rattle.model.specs.Rows.{Place}
use Rattle.keyholds.specs.Holds.{holds_of, cells_held, IsFreeCell}
use Rattle.live_tables.specs.declared.before_image.BeforeImage.{BeforeImage}
use Rattle.live_tables.specs.declared.before_image.BeforeImage.TheVariants.{Row as BeforeImageRow, Other}
use Rattle.live_tables.specs.BeforeImages.{IsToStand}
use Rattle.live_tables.specs.RowSource.{row_read}
use Rattle.live_tables.specs.BeforeImageCallLemmas.{contains_key}
use Rattle.live_tables.proofs.Stands.{some_is, none_is, held_by_itself, table_by_itself}
use Rattle.live_tables.proofs.before_image.before_image_of.Goals as goal
use Rattle.live_tables.proofs.before_image.before_image_of.Goals.{then-is_some-via-then-is_some, then-is_some-via-else-is_some+then-is_some-2}

-- what is to lie beside a place is to lie beside the cell that is this place
beside : (before : Place → Option RecordRow) (count : ℕ) (held : ℕ → List Cell) (cell : Cell) (table : ℕ) (key : Key) (before_image : BeforeImage) → cell ≡ Row table key
    → ((xid : ℕ) → IsFreeCell held xid (Row table key) → (Contains (held xid) (Row table key) → ⊥) → IsToStand before count (held xid) (Row table key) before_image)
    → (xid : ℕ) → IsFreeCell held xid cell → (Contains (held xid) cell → ⊥) → IsToStand before count (held xid) cell before_image
beside before count held cell table key before_image is =
    subst (λ (c : Cell). (xid : ℕ) → IsFreeCell held xid c → (Contains (held xid) c → ⊥) → IsToStand before count (held xid) c before_image) (sym is)

pub returns-then-is_some : goal.returns-then-is_some
returns-then-is_some c =
    let holds = c.args.holds.now in
    beside (row_read c.args.source) c.args.count (cells_held holds) c.args.cell.now c.in-Row.table c.in-Row.key Other c.in-Row.is (λ xid free fresh.
    elim c.then-is_some.branch [
      | then-is_some-via-then-is_some w ↦
          let found = some_is c.held_at.result _ c.held_at.ensures.held (sym c.is_some.ensures ∙ w.if-is_some.true) in
          absurd (fresh (held_by_itself (cells_held holds) xid c.in-Row.table c.in-Row.key free found.0.0
          (contains_key (holds_of holds found.0.0) (Row c.in-Row.table c.in-Row.key) found.0.1.now
          (subst (λ (cell : Cell). Contains (holds_of holds found.0.0) (cell, found.0.1.now)) c.in-Row.is found.1))))
      | then-is_some-via-else-is_some+then-is_some-2 w ↦
          let found = some_is w.held_at-else-is_some.result _ w.held_at-else-is_some.ensures.held (sym w.is_some-else-is_some.ensures ∙ w.if-is_some-2.true) in
          table_by_itself (cells_held holds) xid c.in-Row.table c.in-Row.key free found.0.0
          (contains_key (holds_of holds found.0.0) (Whole c.in-Row.table) found.0.1.now found.1)
    ])

pub returns-in_ok-to_row-in-Some : goal.returns-in_ok-to_row-in-Some
returns-in_ok-to_row-in-Some c =
    beside (row_read c.args.source) c.args.count (cells_held c.args.holds.now) c.args.cell.now c.in-Row.table c.in-Row.key (BeforeImageRow (Some c.in_ok-to_row-in-Some.field-0)) c.in-Row.is
    (λ xid free fresh. (
      ap Some c.in_ok-to_row-in-Some.ensures ∙ sym c.in-Some.is ∙ c.row.ensures,
      none_is c.held_at-else-is_some.result _ c.held_at-else-is_some.ensures.free (sym c.is_some-else-is_some.ensures ∙ c.if-is_some-2.false) xid,
    ))

pub returns-in-None : goal.returns-in-None
returns-in-None c =
    beside (row_read c.args.source) c.args.count (cells_held c.args.holds.now) c.args.cell.now c.in-Row.table c.in-Row.key (BeforeImageRow None) c.in-Row.is
    (λ xid free fresh. (
      sym c.in-None.is ∙ c.row.ensures,
      none_is c.held_at-else-is_some.result _ c.held_at-else-is_some.ensures.free (sym c.is_some-else-is_some.ensures ∙ c.if-is_some-2.false) xid,
    ))
