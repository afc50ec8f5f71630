use Rattle.std.proofs.Common.{◌≡◌, true, [], get_or, sym, arith}
use Rattle.std.specs.Str.{bytes_eq}
use Rattle.std.proofs.lemmas.List.Sums.{position_or_len_is}
use Rattle.model.specs.declared.table_def.ColumnType.TheVariants.{Int}
use Rattle.catalog.specs.declared.draft.DefaultDraft.TheVariants.{Missing}
use Rattle.catalog.specs.declared.draft.ColumnDraft.{ColumnDraft}
use Rattle.catalog.proofs.definitions.column_number.Goals as goal

some_column : ColumnDraft
some_column = record { name = []; kind = Int; default = Missing }

pub returns-then-eq : goal.returns-then-eq
returns-then-eq c =
    let found : bytes_eq c.args.name.now (get_or c.args.columns.now c.loop-number.number c.index-columns-number.result).name ≡ true = rw (← c.index-columns-number.is) (sym c.if-eq.ensures) in
    sym (position_or_len_is (λ (x : ColumnDraft). bytes_eq c.args.name.now x.name) c.args.columns.now c.loop-number.number c.index-columns-number.result (omega arith)
    (λ k below. c.loop-number.invariant k c.index-columns-number.result below) (λ _. found))

pub returns : goal.returns
returns c =
    sym (position_or_len_is (λ (x : ColumnDraft). bytes_eq c.args.name.now x.name) c.args.columns.now _ some_column (omega arith)
    (λ k below. c.loop-number.invariant k some_column (omega arith)) (λ past. absurd (omega arith)))
