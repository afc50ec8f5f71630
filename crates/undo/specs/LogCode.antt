-- The code of a log as its callers see it, by which proofs tell two of them apart.
use Rattle.std.specs.Prelude.{ℕ, List, refl}
use Rattle.std.specs.Coded.{Coded, code_by, coded×, coded_ℕ, coded_list}
use Rattle.change.specs.contracts.inverse.Inverse as inverse_type
use Rattle.change.specs.declared.inverse.Inverse.{Inverse}
use Rattle.undo.specs.Undo.{Log}

-- the code of a log as its callers see it, by which proofs tell two of them apart
abbrev pub log_code : Coded Log
log_code = code_by (List Inverse × ℕ) (coded× (coded_list inverse_type.the_row.coded) coded_ℕ) (λ l. (l.inverses, l.room)) (λ p. record { inverses = p.0; room = p.1 }) (λ _. refl)
