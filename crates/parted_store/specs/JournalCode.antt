-- The code of the journal's part as its callers see it, by which proofs tell two of them apart.
use Rattle.std.specs.Prelude.{ℕ, Option, refl}
use Rattle.std.specs.Coded.{Coded, code_by, coded×, coded_ℕ, coded_option}
use Rattle.tokens.specs.Half.{Half}
use Rattle.world.specs.World.{Stop}
use Rattle.engine.specs.declared.events.LineEvent.{LineEvent}
use Rattle.engine.specs.EngineCode.{half_code, stop_code}
use Rattle.parted_store.specs.Journal.{JournalPart}

abbrev pub journal_code : Coded JournalPart
journal_code =
    code_by (Half LineEvent × (ℕ × Option Stop)) (coded× half_code (coded× coded_ℕ (coded_option stop_code)))
    (λ j. (j.line, (j.open_count, j.stopped))) (λ p. record { line = p.0; open_count = p.1.0; stopped = p.1.1 }) (λ _. refl)
