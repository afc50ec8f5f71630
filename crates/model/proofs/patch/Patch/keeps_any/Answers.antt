use Rattle.std.proofs.Common.{◌≡◌, ◌∙◌, sym, ap, arith, ℕ, suc, ◌+◌, ◌<◌, ◌||◌, true, false, drop, length}
use Rattle.std.specs.List.{list_any}
use Rattle.model.specs.Patch.{column_at, is_kept}
use Rattle.model.proofs.Kept.{kept_from}
use Rattle.model.proofs.patch.Patch.keeps_any.Goals as goal

pub returns-then-is_kept : goal.returns-then-is_kept
returns-then-is_kept c =
    let patch = c.args.self.now in
    let number = c.loop-number.number in
    let below : number < length patch = omega arith in
    let kept : is_kept (column_at patch number) ≡ true = ap is_kept (sym c.column.ensures) ∙ sym c.is_kept.ensures ∙ c.if-is_kept.true in
    sym (sym c.loop-number.invariant ∙ kept_from patch number below ∙ ap (λ b. b || list_any is_kept (drop (suc number) patch)) kept)

pub loop-number-preserved : goal.loop-number-preserved
loop-number-preserved c =
    let patch = c.args.self.now in
    let number = c.loop-number.number in
    let below : number < length patch = omega arith in
    let kept : is_kept (column_at patch number) ≡ false = ap is_kept (sym c.column.ensures) ∙ sym c.is_kept.ensures ∙ c.if-is_kept.false in
    let next : number + 1 ≡ suc number = omega arith in
    ap (λ (n : ℕ). list_any is_kept (drop n patch)) next
    ∙ sym (kept_from patch number below ∙ ap (λ b. b || list_any is_kept (drop (suc number) patch)) kept) ∙ c.loop-number.invariant
