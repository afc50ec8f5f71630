use Rattle.std.proofs.Common.{rules, ◌≡◌, ◌∙◌, ℕ, length, sym, ap, subst}
use Rattle.model.specs.Effect.{serial}
use Rattle.world.specs.World.{changes_in}
use Rattle.world_parts.specs.ByTable.{rows_at}
use Rattle.table_parts.specs.Part.{Part}
use Rattle.table_locks.specs.Moving.{SameBeside}
use Rattle.table_locks.specs.StartLemmas.{last_there, back_more, unused_rows}
use Rattle.table_locks.specs.Starts.{MadeTable}
use Rattle.table_locks.proofs.made.give_back.Goals as goal

pub put_in-requires-clause-keys : goal.put_in-requires-clause-keys
put_in-requires-clause-keys c =
    let l = c.loop-part in
    let t : MadeTable = (c.in-Some.part, c.in-Some.field-0-1) in
    let left = c.pop.new.self.items in
    let at = last_there c.args.start.now.rows c.args.tables.items l.tables.items l.start.rows l.invariant.1 left t c.in-Some.ensures.items in
    c.into_tables.ensures.schema ∙ ap (λ (p : Part). p.store.schema) c.into_part.ensures ∙ (c.requires.unused (length left) t at).0 ∙ sym l.invariant.0

pub loop-part-preserved : goal.loop-part-preserved
loop-part-preserved c =
    let l = c.loop-part in
    let t : MadeTable = (c.in-Some.part, c.in-Some.field-0-1) in
    let left = c.pop.new.self.items in
    let new = c.put_in.new.tables.rows in
    let place : c.len.result ≡ length left = search rules in
    let at = last_there c.args.start.now.rows c.args.tables.items l.tables.items l.start.rows l.invariant.1 left t c.in-Some.ensures.items in
    let rows : c.into_tables.result.rows ≡ t.0.store.world.start =
    c.into_tables.ensures.rows
    ∙ ap (λ (p : Part). serial p.store.schema p.store.world.start (changes_in p.store.world.line)) c.into_part.ensures
    ∙ unused_rows t.0 (c.requires.unused (length left) t at).1 in (
      c.put_in.ensures.schema ∙ l.invariant.0,
      back_more c.args.start.now.rows c.args.tables.items l.tables.items l.start.rows l.invariant.1 left t c.in-Some.ensures.items new
          (subst (λ (n : ℕ). rows_at n new ≡ rows_at n t.0.store.world.start) place (c.put_in.ensures.here ∙ ap (rows_at c.len.result) rows))
          (subst (λ (n : ℕ). SameBeside n l.start.rows new) place c.put_in.ensures.beside),
    )
