-- Calls that lead to a world are, table by table, calls of its parts.
--     starts_with      the part of a world before its first call
--     parts_step      each part stays reached by its calls behind one call more
--     reached_by_parts      each part of a world that calls reach is reached so
use Rattle.std.specs.Prelude.{◌≡◌, ℕ, None}
use Rattle.std.specs.Ordering.{nat_cmp}
use Rattle.std.specs.FinMap as finite
use Rattle.std.proofs.Common.{refl, sym, ap, ◌∙◌}
use Rattle.model.specs.Rows.{Rows, Schema}
use Rattle.world.specs.World.{World, starting}
use Rattle.world.specs.Steps.{Step, Reaches, at_start as world_at_start, by_step as world_by_step}
use Rattle.world_parts.specs.ByTable.{rows_at, changes_at}
use Rattle.world_parts.specs.Lines.{HasLine}
use Rattle.world_parts.specs.LineLemmas.{line_begins, part_line}
use Rattle.world_parts.specs.Parts.{work_if, wanted_if}
use Rattle.world_parts.specs.Marks.{items_at, survivors_if, HasPart}
use Rattle.world_parts.specs.PartOf.{part_of}
use Rattle.world_parts.specs.PartOfLemmas.{part_is, part_marked}
use Rattle.world_parts.specs.Reached.{part_step, at_start, by_step, IsReachedByParts}

-- before the first call nothing is open in the world, and nothing in the part
starts_with : (table : ℕ) (start : Rows) → HasPart table (starting start) (starting (rows_at table start))
starts_with table start = (
  record {
    committed = refl;
    work = λ xid. ap (work_if xid) (none xid) ∙ sym (ap (λ o. changes_at table (work_if xid o)) (none xid));
    wanted = λ xid. ap wanted_if (none xid) ∙ sym (ap (λ o. changes_at table (wanted_if o)) (none xid));
  },
  λ xid. ap (survivors_if xid) (none xid) ∙ sym (ap (λ o. items_at table xid (survivors_if xid o)) (none xid)),
)
  where
    none : (xid : ℕ) → finite.get (starting start).opened xid ≡ None
    none xid = finite.get-empty nat_cmp xid

has_part : (table : ℕ) (w : World) → HasPart table w (part_of table w)
has_part table w = (part_is table w, part_marked table w)

-- where each part is reached by its calls, so it is behind one call more
pub parts_step : (schema : Schema) (start : Rows) (w new : World) → IsReachedByParts schema start w → Step schema w new
    → IsReachedByParts schema start new
parts_step schema start w new led step = record {
  parts = λ table.
      let before = led.parts table in (
        part_of table new,
        has_part table new,
        part_line table new,
        by_step before.0 (part_of table new) before.3
            (part_step w new (part_of table new) before.1 before.2 step (has_part table new) (part_line table new)),
      );
}

pub reached_by_parts : (schema : Schema) (start : Rows) (w : World) → Reaches schema (starting start) w
    → IsReachedByParts schema start w
reached_by_parts schema start w world_at_start = record {
  parts = λ table. (starting (rows_at table start), starts_with table start, line_begins table start, at_start);
}
reached_by_parts schema start _ (world_by_step w new led step) =
    parts_step schema start w new (reached_by_parts schema start w led) step
