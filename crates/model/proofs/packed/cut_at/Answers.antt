use Rattle.std.proofs.Common.{◌≡◌, ◌∙◌, sym, ap, subst, ◌*◌, drop, unwrap_or, ℕ}
use Rattle.model.specs.declared.patch.ColumnPatch.TheVariants.{Keep}
use Rattle.model.specs.Packed.{column_in, IsCut, cut_of, columns_in, cuts_at, texts_in}
use Rattle.model.proofs.Blocks.{from_place, cut_is, cut_column}
use Rattle.model.proofs.packed.cut_at.Goals as goal

-- what is read is the cut of that number
read : (c : goal.After-from_bytes) → c.from_bytes.result ≡ cut_of (drop (9 * c.args.number) (drop (cuts_at c.args.block.now) c.args.block.now))
read c =
    let block = c.args.block.now in
    c.from_bytes.ensures ∙ ap cut_of (from_place block c.cuts_start-start.result c.args.number)
    ∙ ap (λ (i : ℕ). cut_of (drop (9 * c.args.number) (drop i block))) c.cuts_start-start.ensures.start

pub returns-clause-is : goal.returns-clause-is
returns-clause-is c =
    let block = c.args.block.now in
    subst (IsCut (texts_in block)) (sym (read c)) (cut_is (texts_in block) (columns_in block) c.args.number (drop (cuts_at block) block) c.requires.within c.requires.packed.2)

pub returns-clause-column : goal.returns-clause-column
returns-clause-column c =
    let block = c.args.block.now in
    ap (column_in (texts_in block)) (read c)
    ∙ sym (ap (λ column. unwrap_or column Keep) (cut_column (texts_in block) (columns_in block) c.args.number (drop (cuts_at block) block) c.requires.within))
