-- The codes of what callers see of tables, by which proofs tell two of them apart.
use Rattle.std.specs.Prelude.{ℕ, List, refl}
use Rattle.std.specs.FinMap.{FinMap, code}
use Rattle.std.specs.Coded.{Coded, code_by, coded×, coded_ℕ, coded_list}
use Rattle.model.specs.contracts.cell.Cell as cell_type
use Rattle.model.specs.declared.cell.Cell.{Cell}
use Rattle.model.specs.declared.row.Row.{Row}
use Rattle.model.specs.Key.{key_cmp}
use Rattle.model.specs.Rows.{TableKeys, Schema, Rows}
use Rattle.rows.specs.KeptCode.{key_code, row_code}
use Rattle.indexes.specs.Table.{Spot, TableContent}
use Rattle.indexes.specs.Content.{Content}

-- the code of a table's keys, by which proofs tell two of them apart
abbrev pub keys_code : Coded TableKeys
keys_code =
    code_by (List ℕ × List (List ℕ)) (coded× (coded_list coded_ℕ) (coded_list (coded_list coded_ℕ))) (λ k. (k.primary, k.uniques)) (λ p. record { primary = p.0; uniques = p.1 }) (λ _. refl)

-- the code of one table as callers see it, by which proofs tell two of them apart
abbrev pub table_code : Coded TableContent
table_code =
    code_by (TableKeys × (FinMap key_cmp Row × List Spot)) (coded× keys_code (coded× (code key_code row_code) (coded_list (coded× coded_ℕ key_code)))) (λ t. (t.keys, (t.rows, t.room))) (λ p. record { keys = p.0; rows = p.1.0; room = p.1.1 }) (λ _. refl)

-- the code of all tables as callers see them, by which proofs tell two of them apart
abbrev pub content_code : Coded Content
content_code =
    code_by (Schema × (Rows × List Cell)) (coded× (coded_list keys_code) (coded× (code (coded× coded_ℕ key_code) row_code) (coded_list cell_type.the_row.coded))) (λ c. (c.schema, (c.rows, c.room))) (λ p. record { schema = p.0; rows = p.1.0; room = p.1.1 }) (λ _. refl)
