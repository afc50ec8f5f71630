use Rattle.std.specs.Prelude.{◌≡◌, ◌<◌, ℕ, zero, suc, List, [], ◌∷◌, map, length, slice_index_or, slice_set, refl}
use Rattle.std.proofs.Common.{ap, ◌∙◌, arith}
use Rattle.std.proofs.Math.ListN.{length-set}
use Rattle.world.specs.World as world
use Rattle.engine.specs.declared.entry.Entry.{Entry}
use Rattle.engine.specs.Engine.{entry_in}
use Rattle.engine.proofs.shut.forget_all.Goals as goal

-- one is set to another that tells the same
set_alike : (es : List Entry) (i : ℕ) (e new : Entry) → i < length es → entry_in new ≡ entry_in (slice_index_or es i e) → map entry_in (slice_set es i new) ≡ map entry_in es
set_alike [] i e new within alike = refl
set_alike (first ∷ es) zero e new within alike = ap (λ (f : world.Entry). f ∷ map entry_in es) alike
set_alike (first ∷ es) (suc i) e new within alike = ap (λ (fs : List world.Entry). entry_in first ∷ fs) (set_alike es i e new (omega (arith, within)) alike)

pub loop-entry-preserved : goal.loop-entry-preserved
loop-entry-preserved c =
    let es = c.loop-entry.entries in
    let index = c.loop-entry.entry-index in
    let within : index < length es = omega arith in
    let new : Entry = record (slice_index_or es index c.entry-item.result) { inverses = c.forget.new.self } in
    record {
      told = set_alike es index c.entry-item.result new within refl ∙ c.loop-entry.invariant.told;
      long = length-set es index new ∙ c.loop-entry.invariant.long;
    }
