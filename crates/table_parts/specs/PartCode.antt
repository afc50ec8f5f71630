-- The code of a part as its callers see it, by which proofs tell two of them apart.
use Rattle.std.specs.Prelude.{ℕ, refl}
use Rattle.std.specs.Coded.{Coded, code_by, coded×, coded_ℕ}
use Rattle.engine.specs.Engine.{Engine}
use Rattle.engine.specs.EngineCode.{engine_code}
use Rattle.table_parts.specs.Part.{Part}

abbrev pub part_code : Coded Part
part_code = code_by (ℕ × Engine) (coded× coded_ℕ engine_code) (λ p. (p.number, p.store)) (λ p. record { number = p.0; store = p.1 }) (λ _. refl)
