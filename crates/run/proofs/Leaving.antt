-- What a run leaves, by what ended it.
use Rattle.std.proofs.Common.{◌≡◌, [], refl, sym, ap, subst, ◌∙◌, inl, inr}
use Rattle.std.proofs.KnownBytes.{Appends-nil}
use Rattle.std.specs.Prelude.{map}
use Rattle.model.specs.Rows.{Rows}
use Rattle.frames.specs.declared.fault.FrameFault.TheVariants as frames
use Rattle.session.specs.State.{Setting}
use Rattle.run.specs.declared.applier.Applier.{Applier}
use Rattle.run.specs.declared.end.End.{End}
use Rattle.run.specs.declared.end.End.TheVariants as ends
use Rattle.run.specs.declared.outcome.Outcome.{Outcome}
use Rattle.engine.specs.Engine.{entry_in}
use Rattle.world.specs.World.{journal as journal_of}
use Rattle.run.specs.Cause.{schema_of, HasGoneWell, HasNotClashed, IsNextCause, LastClashed, IsSendCause, IsInputCause, IsCause}
use Rattle.run.specs.Devices.{DeviceState}
use Rattle.run.specs.Handler.{IsEnded, IsRunOver}
use Rattle.run.specs.Applier.{Represents, HasCommits, HasEnded}
use Rattle.run.specs.Run.{IsRun}
use Rattle.run.specs.StreamPart.{StreamPart}
use Rattle.run.proofs.Running.{nothing_handled}

module _ (g : Setting) (rows : Rows) (old new : DeviceState) (part : StreamPart g old new) where
  -- the next item ends the run, where all has gone well
  by_next : (end : End) → HasNotClashed rows part → HasGoneWell part
      → IsNextCause g rows part.progress.state part.rest end → IsCause rows part end
  by_next ends.Clean clear well why = absurd why
  by_next (ends.Frame f) clear well why = absurd why
  by_next (ends.HeldKey xid holder) clear well why = absurd why
  by_next ends.OutOfMemory clear well why = (clear, inl well)
  by_next end clear well why = inl (clear, well, why)

  -- the last item does
  by_last : (end : End) → LastClashed rows part end → IsCause rows part end
  by_last (ends.Unique table key) clashed = inr clashed
  by_last (ends.NullKey table) clashed = inr clashed
  by_last end clashed = absurd clashed.why

  by_item : (a : Applier) (end : End) → IsEnded g (Represents g rows) (HasEnded g rows) a part end
      → IsCause rows part end
  by_item a end why = elim why.ended.1 [
    | inl next ↦ by_next end next.0 why.well next.1
    | inr last ↦ by_last end (record { last = last.0; clear = last.1; committed = last.2; why = last.3; well = why.well })
  ]

  -- an update that was due did
  by_send : (end : End) → HasNotClashed rows part → IsSendCause part end → IsCause rows part end
  by_send (ends.Frame frames.Device) clear why = (clear, inr why)
  by_send ends.OutOfMemory clear why = (clear, inr why)
  by_send end clear why = absurd why

  -- the input did
  by_input : (end : End) → HasNotClashed rows part → IsInputCause part end → IsCause rows part end
  by_input ends.Clean clear why = (clear, why)
  by_input (ends.Frame frames.Device) clear why = (clear, inl why)
  by_input (ends.Frame f) clear why = (clear, why)
  by_input ends.OutOfMemory clear why = (clear, inl why)
  by_input end clear why = absurd why

pub is_run : (g : Setting) (rows : Rows) (old new : DeviceState) (a : Applier) (o : Outcome) → IsRunOver g (Represents g rows) (HasEnded g rows) old new a o.end → o.tables.rows ≡ a.work.store.world.committed → o.tables.schema ≡ a.work.store.schema → map entry_in o.journal.items ≡ journal_of a.work.store.world → o.position ≡ a.position
    → IsRun g rows old new o
is_run g rows old new a o over tables schema journal position =
    let commits : HasCommits g rows a over.part.progress.state =
    elim over.why [ inl item ↦ item.ended.0 | inr other ↦ other.0.commits ] in
    record {
      part = over.part;
      cause = elim over.why [
        | inl item ↦ by_item g rows old new over.part a o.end item
        | inr (at, inl send) ↦ by_send g rows old new over.part o.end at.clear send
        | inr (at, inr input) ↦ by_input g rows old new over.part o.end at.clear input
      ];
      journal = journal ∙ commits.journal;
      position = position ∙ commits.position;
      tables = tables ∙ commits.base;
      schema = schema ∙ commits.schema;
    }

-- what is left where memory was refused before a byte was read
pub unread_is_run : (g : Setting) (rows : Rows) (devices : DeviceState) (o : Outcome) → o.tables.rows ≡ rows → o.tables.schema ≡ schema_of g → o.journal.items ≡ [] → o.position ≡ 0
    → o.end ≡ ends.OutOfMemory → IsRun g rows devices devices o
unread_is_run g rows devices o tables schema journal position end = record {
  part = nothing_handled g devices;
  cause = subst (IsCause rows (nothing_handled g devices)) (sym end) (tt, inl (record { read = refl; sent = (refl, Appends-nil devices.sent) }));
  journal = ap (map entry_in) journal;
  position = position;
  tables = tables;
  schema = schema;
}
