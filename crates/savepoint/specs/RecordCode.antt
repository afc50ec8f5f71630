-- The code of a record as its callers see it, by which proofs tell two of them apart.
use Rattle.std.specs.Prelude.{ℕ, List, refl}
use Rattle.std.specs.Coded.{Coded, code_by, coded×, coded_ℕ, coded_list}
use Rattle.undo.specs.Undo.{Log}
use Rattle.undo.specs.LogCode.{log_code}
use Rattle.model.specs.contracts.item.Item as item_type
use Rattle.model.specs.declared.item.Item.{Item}
use Rattle.savepoint.specs.declared.mark.Mark.{Mark}
use Rattle.savepoint.specs.Record.{Record}

-- the code of a savepoint's mark, by which proofs tell two of them apart
abbrev pub mark_code : Coded Mark
mark_code = code_by (ℕ × ℕ) (coded× coded_ℕ coded_ℕ) (λ m. (m.undo, m.held)) (λ p. record { undo = p.0; held = p.1 }) (λ _. refl)

-- the code of a record as its callers see it, by which proofs tell two of them apart
abbrev pub record_code : Coded Record
record_code =
    code_by ((ℕ × List Item) × (List (ℕ × Mark) × (Log × ℕ))) (coded× (coded× coded_ℕ (coded_list item_type.the_row.coded)) (coded× (coded_list (coded× coded_ℕ mark_code)) (coded× log_code coded_ℕ)))
    (λ r. ((r.top, r.survivors), (r.marks, (r.log, r.room)))) (λ p. record { top = p.0.0; survivors = p.0.1; marks = p.1.0; log = p.1.1.0; room = p.1.1.1 }) (λ _. refl)
