-- How the end of a run with workers is decided at a world, once all of them have come back.
--     end_for, EndsAsNoted      the end of a clash; the end by the clash that is noted, or that none is
--     EndsAsHeld      the end by whom a transaction waits for, where nothing goes on
--     IsDecided      the end of a run, by the clash that is noted and what was proposed
use Rattle.std.specs.Prelude.{◌≡◌, ℕ, List, None, IsSome, ◌⊎◌}
use Rattle.model.specs.Rows.{Schema}
use Rattle.model.specs.Effect.{ClashCause, NullKey, Unique}
use Rattle.world.specs.World.{World}
use Rattle.world.specs.Steps.{IsStuck}
use Rattle.run.specs.declared.end.End.{End}
use Rattle.run.specs.declared.end.End.TheVariants as ends

-- the end of a run in which a change clashed
abbrev pub end_for : ClashCause → End
end_for (Unique table key) = ends.Unique table key
end_for (NullKey table) = ends.NullKey table

-- It is the end of the clash that is noted; where none is, memory was refused.
abbrev pub EndsAsNoted : (ClashCause → Type 0) → End → Type 0
EndsAsNoted Noted end =
    ((cause : ClashCause) × Noted cause × (end ≡ end_for cause))
    ⊎ (((cause : ClashCause) → ¬ (Noted cause)) × (end ≡ ends.OutOfMemory))

-- It is that of the holder for which the transaction waits, where nothing goes on; where there is none, memory was
-- refused.
abbrev pub EndsAsHeld : Schema → World → List (ℕ × ℕ) → ℕ → End → Type 0
EndsAsHeld schema w given xid end =
    ((holder : ℕ) × IsStuck schema w given xid holder × (end ≡ ends.HeldKey xid holder))
    ⊎ (((holder : ℕ) → ¬ (IsStuck schema w given xid holder)) × (end ≡ ends.OutOfMemory))

-- The end of a run at this world, by the clash that is noted and the end that was proposed.
abbrev pub IsDecided : Schema → World → (ClashCause → Type 0) → List (ℕ × ℕ) → End → End → Type 0
IsDecided schema w Noted given ends.Clean end =
    ((w.stopped ≡ None) × (end ≡ ends.Clean)) ⊎ (IsSome w.stopped × EndsAsNoted Noted end)
IsDecided schema w Noted given (ends.Frame fault) end = end ≡ ends.Frame fault
IsDecided schema w Noted given (ends.Msg fault) end = end ≡ ends.Msg fault
IsDecided schema w Noted given (ends.Session fault) end = end ≡ ends.Session fault
IsDecided schema w Noted given (ends.Rel fault) end = end ≡ ends.Rel fault
IsDecided schema w Noted given (ends.Unique table key) end = EndsAsNoted Noted end
IsDecided schema w Noted given (ends.NullKey table) end = EndsAsNoted Noted end
IsDecided schema w Noted given (ends.HeldKey xid holder) end = EndsAsHeld schema w given xid end
IsDecided schema w Noted given ends.OutOfMemory end = end ≡ ends.OutOfMemory
