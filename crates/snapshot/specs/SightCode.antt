-- The code of what a reader knows, by which proofs tell two of them apart.
use Rattle.std.specs.Prelude.{ℕ, List, refl}
use Rattle.std.specs.Coded.{Coded, code_by, coded×, coded_ℕ, coded_list}
use Rattle.model.specs.Rows.{Rows, Schema}
use Rattle.indexes.specs.Codes.{keys_code}
use Rattle.atomic_table.specs.Seated.{TableId, table_id_coded}
use Rattle.tokens.specs.Half.{Half}
use Rattle.origin.specs.Commits.{LoadedCommits, loaded_of}
use Rattle.engine.specs.declared.events.LineEvent.{LineEvent}
use Rattle.engine.specs.EngineCode.{rows_code, half_code}
use Rattle.snapshot.specs.Reads.{Sight}

-- of the published commits that were loaded
abbrev pub commits_code : Coded LoadedCommits
commits_code =
    code_by (TableId × (ℕ × List ℕ)) (coded× table_id_coded (coded× coded_ℕ (coded_list coded_ℕ))) (λ c. (c.origin, (c.skip, c.ends)))
    (λ p. loaded_of p.0 p.1.0 p.1.1) (λ _. refl)

-- of what a reader knows
abbrev pub sight_code : Coded Sight
sight_code =
    code_by ((Schema × Rows) × (Half LineEvent × LoadedCommits)) (coded× (coded× (coded_list keys_code) rows_code) (coded× half_code commits_code))
    (λ s. ((s.schema, s.start), (s.line, s.published)))
    (λ p. record { schema = p.0.0; start = p.0.1; line = p.1.0; published = p.1.1 }) (λ _. refl)
