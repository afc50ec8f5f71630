use Rattle.std.proofs.Common.{◌≡◌, ◌∷◌, ◌++◌, [], Global, ℕ, List, length, take, sym, ap, subst, ◌∙◌, arith}
use Rattle.std.proofs.Math.Seq.{take-length}
use Rattle.std.specs.Prelude.{Vec}
use Rattle.std.specs.Map.{keys_of}
use Rattle.model.specs.declared.key.Key.{Key}
use Rattle.model.specs.declared.cell.Cell.{Cell}
use Rattle.model.specs.declared.cell.Cell.TheVariants.{Row}
use Rattle.keyholds.specs.Lists.{AddsKeys}
use Rattle.keyholds.proofs.Keys.{no_keys, other_cell, its_cell, cells_more}
use Rattle.keyholds.proofs.holds.push_keys.Goals as goal
use Rattle.keyholds.proofs.holds.push_keys.Goals.{in-Row+then-its-table+in_ok-copy+in_ok-push, in-Row+else-its-table, in_default}

pub loop-cell-init : goal.loop-cell-init
loop-cell-init g c = no_keys c.args.table c.args.keys.now.items

pub loop-cell-preserved : goal.loop-cell-preserved
loop-cell-preserved g c =
    let list = c.args.list.now in
    let old = c.args.keys.now.items in
    let now = c.loop-cell.keys.items in
    let cell = c.loop-cell-item.result.0 in
    let cells = keys_of (take c.loop-cell.cell-index list) in
    let more = cells_more list c.loop-cell.cell-index c.loop-cell-item.result c.loop-cell-test.true c.loop-cell-item.is in
    subst (λ (cs : List Cell). AddsKeys c.args.table cs old c.match-cell.keys.items) (sym more)
    (elim c.match-cell.branch [
      | in-Row+then-its-table+in_ok-copy+in_ok-push w ↦
          let is : cell ≡ Row c.args.table w.in-Row.key = w.in-Row.is ∙ ap (λ (t : ℕ). Row t w.in-Row.key) w.if-its-table.true in
          let key = w.in_ok-copy.field-0 in
          subst (λ (keys : List Key). AddsKeys c.args.table (cells ++ cell ∷ []) old keys) (sym (ap (λ (v : Vec Key Global). v.items) w.keys-is ∙ w.in_ok-push.ensures.items))
          (its_cell c.args.table cells cell old now c.loop-cell.invariant key (is ∙ ap (Row c.args.table) (sym w.in_ok-copy.ensures)))
      | in-Row+else-its-table w ↦
          subst (λ (keys : List Key). AddsKeys c.args.table (cells ++ cell ∷ []) old keys) (sym (ap (λ (v : Vec Key Global). v.items) w.keys-is))
          (other_cell c.args.table cells cell old now c.loop-cell.invariant (λ key is. w.if-its-table.false (let rows : Row w.in-Row.its w.in-Row.key ≡ Row c.args.table key = sym w.in-Row.is ∙ is in cc)))
      | in_default w ↦
          subst (λ (keys : List Key). AddsKeys c.args.table (cells ++ cell ∷ []) old keys) (sym (ap (λ (v : Vec Key Global). v.items) w.keys-is))
          (other_cell c.args.table cells cell old now c.loop-cell.invariant (λ key is. w.in_default.not-Row c.args.table key is))
    ])

pub returns : goal.returns
returns g c =
    let list = c.args.list.now in
    let last : c.loop-cell.cell-index ≡ length list = omega arith in
    subst (λ (cs : List Cell). AddsKeys c.args.table cs c.args.keys.now.items c.loop-cell.keys.items)
    (ap (λ (i : ℕ). keys_of (take i list)) last ∙ ap keys_of (take-length list)) c.loop-cell.invariant
