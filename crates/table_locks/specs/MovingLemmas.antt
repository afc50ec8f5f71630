-- What follows where the rows of one table are moved out of tables and into them.
--     moved_here, moved_beside      rows that agree at a table's places; at those of each other table
--     own_rows      rows of one table alone
use Rattle.std.specs.Prelude.{◌≡◌, ℕ}
use Rattle.std.proofs.Common.{sym, ◌∙◌, ap, subst, inl, inr}
use Rattle.std.proofs.lemmas.Bool.{cases_eq, ne_eqb}
use Rattle.std.specs.FinMap as finite
use Rattle.std.specs.FinMap.{get}
use Rattle.model.specs.declared.key.Key.{Key}
use Rattle.model.specs.EditLemmas.{same_rows}
use Rattle.model.specs.Rows.{Rows, place_cmp}
use Rattle.indexes.specs.Content.{SameElsewhere}
use Rattle.world_parts.specs.ByTable.{rows_at}
use Rattle.world_parts.specs.ByTableLemmas.{get_rows_here, get_rows_beside, same_tables}
use Rattle.table_locks.specs.Moving.{SameBeside}

pub moved_here : (number : ℕ) (rows others : Rows) → ((key : Key) → get rows (number, key) ≡ get others (number, key))
    → rows_at number rows ≡ rows_at number others
moved_here = same_tables

pub moved_beside : (number : ℕ) (old new : Rows) → SameElsewhere old new number → SameBeside number old new
moved_beside number old new elsewhere table apart = same_tables table new old (λ key. elsewhere table key apart)

-- where only the table's rows came to none
pub own_rows : (number : ℕ) (whole none own : Rows) → none ≡ finite.empty → ((key : Key) → get own (number, key) ≡ get whole (number, key))
    → SameElsewhere none own number → own ≡ rows_at number whole
own_rows number whole none own empty here elsewhere =
    same_rows own (rows_at number whole) (λ p.
    elim (cases_eq p.0 number) [
      | inl same ↦
          subst (λ (n : ℕ). get own (n, p.1) ≡ get (rows_at number whole) (n, p.1)) (sym same)
          (here p.1 ∙ sym (get_rows_here number whole p.1))
      | inr apart ↦
          elsewhere p.0 p.1 apart ∙ ap (λ (rows : Rows). get rows p) empty ∙ finite.get-empty place_cmp p
          ∙ sym (get_rows_beside number whole p (ne_eqb p.0 number apart))
    ])
