-- Which worlds a run may have.
--     rows_code      two rows that are the same are so in one way
--     led_start, led_step      the world before the first call, and one behind a call
--     led_reached      each world that calls reach
--     each_table, led_by_parts      what is so of each of some tables; a world that is known by its parts
use Rattle.std.specs.Prelude.{◌≡◌, ℕ, ◌<◌, ◌≤◌, refl}
use Rattle.std.proofs.Common.{zero, suc, sym, ◌∙◌, subst, arith}
use Rattle.std.proofs.Math.Logic.{∥∥₁_prop, ∥∥₁_elim, ∥∥₁_map}
use Rattle.std.specs.Coded.{Coded, Coded-set, coded×, coded_ℕ, coded_list, coded_option}
use Rattle.std.specs.FinMap.{code}
use mathlib.Core.Logic.{dite}
use native.Mathlib.Decide.{ℕ_discrete}
use Rattle.model.specs.contracts.value.Value as value_type
use Rattle.model.specs.Rows.{Rows, Schema, IsValid}
use Rattle.world.specs.CallLemmas.{start_stays}
use Rattle.world.specs.Steps.{Step, Reaches, at_start, by_step}
use Rattle.world.specs.World.{World, starting}
use Rattle.world_parts.specs.Led.{IsLed}
use Rattle.world_parts.specs.Reached.{IsReachedByParts}
use Rattle.world_parts.specs.ReachedLemmas.{parts_step, reached_by_parts}
use Rattle.world_parts.specs.Sound.{IsSound, HasSoundPart, StopsInTable}
use Rattle.world_parts.specs.SoundLemmas.{sound_start, sound_step, sound_reached}
use Rattle.world_parts.specs.SoundPartLemmas.{sound_by_parts}

pub rows_code : Coded Rows
rows_code = code (coded× coded_ℕ (coded_list value_type.the_row.coded)) (coded_list (coded_option value_type.the_row.coded))

start_is : (schema : Schema) (start : Rows) (w : World) → Reaches schema (starting start) w → w.start ≡ start
start_is schema start _ at_start = refl
start_is schema start _ (by_step w new before step) = start_stays schema w new step ∙ start_is schema start w before

pub led_start : (schema : Schema) (start : Rows) → IsLed schema start (starting start)
led_start schema start = record {
  starts = refl;
  parts = ∣ reached_by_parts schema start (starting start) at_start ∣₁;
  sound = λ valid. ∣ sound_start schema start valid ∣₁;
}

pub led_step : (schema : Schema) (start : Rows) (w new : World) → IsLed schema start w → Step schema w new
    → IsLed schema start new
led_step schema start w new led step = record {
  starts = start_stays schema w new step ∙ led.starts;
  parts = ∥∥₁_map led.parts (λ (is : IsReachedByParts schema start w). parts_step schema start w new is step);
  sound = λ valid. ∥∥₁_map (led.sound valid) (λ (is : IsSound schema w). sound_step schema w new is step);
}

pub led_reached : (schema : Schema) (start : Rows) (w : World) → ∥ Reaches schema (starting start) w ∥₁
    → IsLed schema start w
led_reached schema start w reached = record {
  starts =
      ∥∥₁_elim reached (Coded-set rows_code w.start start)
      (λ (is : Reaches schema (starting start) w). start_is schema start w is);
  parts = ∥∥₁_map reached (reached_by_parts schema start w);
  sound = λ valid. ∥∥₁_map reached (sound_reached schema start valid w);
}

-- ---- a world that is known by its parts

-- Locks keep of each of so many tables that there is something, and not what. So there is something for all of them.
pub each_table : (P : ℕ → Type 0) (count : ℕ) → ((table : ℕ) → table < count → ∥ P table ∥₁)
    → ((table : ℕ) → count ≤ table → P table) → ∥ ((table : ℕ) → P table) ∥₁
each_table P zero some rest = ∣ (λ (table : ℕ). rest table (omega arith)) ∣₁
each_table P (suc n) some rest =
    ∥∥₁_elim (some n (omega arith)) ∥∥₁_prop (λ (one : P n).
    each_table P n (λ table below. some table (omega (arith, below))) (λ table beyond.
    dite (ℕ_discrete table n) (λ here. subst P (sym here) one) (λ apart. rest table (omega (arith, beyond, apart)))))

pub led_by_parts : (schema : Schema) (start : Rows) (w : World) → w.start ≡ start → ∥ IsReachedByParts schema start w ∥₁
    → (IsValid schema start → ∥ ((table : ℕ) → HasSoundPart schema w table) ∥₁) → StopsInTable w → IsLed schema start w
led_by_parts schema start w starts parts each in_table = record {
  starts = starts;
  parts = parts;
  sound = λ valid.
      ∥∥₁_map (each valid) (λ (has : (table : ℕ) → HasSoundPart schema w table). sound_by_parts schema w has in_table);
}
