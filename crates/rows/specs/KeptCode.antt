-- The code of a store as its callers see it, by which proofs tell two of them apart.
use Rattle.std.specs.Prelude.{ℕ, refl}
use Rattle.std.specs.FinMap.{FinMap, code}
use Rattle.std.specs.Coded.{Coded, code_by, coded×, coded_ℕ, coded_list, coded_option}
use Rattle.model.specs.contracts.value.Value as value_type
use Rattle.model.specs.declared.key.Key.{Key}
use Rattle.model.specs.declared.row.Row.{Row}
use Rattle.model.specs.Key.{key_cmp}
use Rattle.rows.specs.Kept.{Kept}

-- the code of a key, by which proofs tell two of them apart
abbrev pub key_code : Coded Key
key_code = coded_list value_type.the_row.coded

-- the code of a row, by which proofs tell two of them apart
abbrev pub row_code : Coded Row
row_code = coded_list (coded_option value_type.the_row.coded)

-- the code of a store as its callers see it, by which proofs tell two of them apart
abbrev pub kept_code : Coded Kept
kept_code =
    code_by (FinMap key_cmp Row × FinMap key_cmp ℕ) (coded× (code key_code row_code) (code key_code coded_ℕ)) (λ k. (k.rows, k.slots)) (λ p. record { rows = p.0; slots = p.1 }) (λ _. refl)
