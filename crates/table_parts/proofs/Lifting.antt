-- What a call of a part's store is in every world of which it is a part.
--     opened_lifts, tried_lifts      a transaction opens; a change was tried
--     try_lifts, try_keeps      the same, where a clash alters nothing; start and commits stay
--     back_lifts, commit_lifts, abort_lifts      a rollback; the two ends
--     commit_line      a commit in the lines of both
--     read_lifts, rows_lift, live_lifts      a committed row; all of them; a row with the work of all open transactions
use Rattle.std.proofs.Common.{◌≡◌, ℕ, refl, sym, ap, subst, ◌∙◌}
use Rattle.std.specs.Prelude.{Vec, IfOk, Option, Some, Result, Ok, Err}
use Rattle.std.specs.FinMap.{get}
use Rattle.std.specs.Global.{Global}
use Rattle.model.specs.declared.change.Change as change_type
use Rattle.model.specs.declared.key.Key.{Key}
use Rattle.model.specs.declared.row.Row.{Row}
use Rattle.model.specs.declared.item.CommitInfo.{CommitInfo}
use Rattle.model.specs.Rows.{Rows, Schema}
use Rattle.model.specs.TableRows.{rows_of_table}
use Rattle.world.specs.World.{Opened, ByClash, World}
use Rattle.world.specs.Steps as steps
use Rattle.world.specs.Steps.{Fault, AlreadyOpen, TooManyOpen, Stopped, OutOfMemory, Acted, IsDone, IsSkipped, Held, Clashed, Acts, ReadsLive, wanting}
use Rattle.live_tables.specs.declared.answers.EngineFault.{EngineFault}
use Rattle.live_tables.specs.declared.answers.Verdict.{Verdict}
use Rattle.live_tables.specs.declared.answers.Verdict.TheVariants.{Acted as ActedVerdict, Clashes}
use Rattle.live_tables.specs.Answers.{told, told_fault}
use Rattle.live_tables.specs.Tried as tried
use Rattle.world_parts.specs.ByTable.{IsIn}
use Rattle.world_parts.specs.ByTableLemmas.{get_rows_here, walked_at}
use Rattle.world_parts.specs.Lines.{HasLine, KeepsLine}
use Rattle.world_parts.specs.LineLemmas.{line_here, acts_keeps}
use Rattle.world_parts.specs.LiveLemmas.{live_here}
use Rattle.world_parts.specs.Parts.{after_tried}
use Rattle.world_parts.specs.Marks.{HasPart}
use Rattle.world_parts.specs.PartLemmas.{acts_lifts}
use Rattle.world_parts.specs.ToldLemmas.{tried_here, back_told, ends_here, opens_here, aborts_here}
use Rattle.table_parts.specs.Part.{Tries, TriesAlone, Opens, GoesBack, Commits, CommitsLine, Aborts}

-- what was altered into the same is the same part
same_part : (table : ℕ) (w part new : World) → new ≡ part → HasPart table w part → HasPart table w new
same_part table w part new same has = subst (HasPart table w) (sym same) has

pub opened_lifts : (table : ℕ) (part new : World) (xid : ℕ) (answer : Result (Unit {0}) Fault) → steps.Opens part xid answer new → Opens table part new
opened_lifts table part new xid (Ok u) opens w has = subst (HasPart table w) (sym opens.3) (opens_here table w part has xid opens.1)
opened_lifts table part new xid (Err AlreadyOpen) opens w has = same_part table w part new opens.2 has
opened_lifts table part new xid (Err TooManyOpen) opens w has = same_part table w part new opens.3 has
opened_lifts table part new xid (Err Stopped) opens w has = same_part table w part new opens.1 has
opened_lifts table part new xid (Err OutOfMemory) opens w has = same_part table w part new opens.3 has

module _ (schema : Schema) (table : ℕ) (part new : World) (xid : ℕ) (p : Opened) (here : get part.opened xid ≡ Some p) where
  -- what a change that was not refused leaves
  left_by : (mark : ℕ) (c : change_type.Change) (answer : Acted) → Acts schema part xid p mark c (Ok answer) new → new ≡ after_tried part xid p mark c answer
  left_by mark c IsDone acts = acts.3
  left_by mark c IsSkipped acts = acts.3
  left_by mark c (Held holder) acts = acts.2
  left_by mark c (Clashed cause) acts = acts.3

  -- one that was refused leaves all
  refused_same : (fault : Fault) → steps.IsRefused part fault new → new ≡ part
  refused_same AlreadyOpen refused = absurd refused
  refused_same TooManyOpen refused = absurd refused
  refused_same Stopped refused = refused.1
  refused_same OutOfMemory refused = refused.1

  pub tried_lifts : (mark : ℕ) (c : change_type.Change) → IsIn table c → (answer : Result Acted Fault) → Acts schema part xid p mark c answer new
      → Tries schema table part xid mark c answer new
  tried_lifts mark c inside (Ok answer) acts = λ w o sub has at runs is. (
    acts_lifts schema table w part has.0 xid o p at here c inside runs sub mark answer new acts,
    subst (HasPart table (after_tried w xid o sub c answer))
        (sym (left_by mark c answer acts ∙ ap (λ (m : ℕ). after_tried part xid p m c answer) is))
        (tried_here table w part has xid o p at here sub c c answer inside),
  )
  tried_lifts mark c inside (Err fault) acts = λ w has. same_part table w part new (refused_same fault acts) has

  pub try_lifts : (mark : ℕ) (c : change_type.Change) → IsIn table c → (answer : Result Verdict EngineFault) → tried.Tries schema part xid p mark c answer new
      → TriesAlone schema table part xid mark c answer new
  try_lifts mark c inside (Ok (ActedVerdict acted)) tries = tried_lifts mark c inside (told (Ok acted)) tries
  try_lifts mark c inside (Ok (Clashes clash)) tries = λ w o has at runs.
      let found = tries.1 in
      let acts =
      acts_lifts schema table w part has.0 xid o p at here c inside runs mark mark (Clashed found.0)
      (record (wanting part xid p mark c) { stopped = Some (ByClash xid c found.0) }) (tries.0, found.2.0, found.2.1, refl) in
      ((found.0, found.1, (acts.1, acts.2)), same_part table w part new tries.2 has)
  try_lifts mark c inside (Err fault) tries = λ w has. same_part table w part new (refused_same (told_fault fault) tries) has

  pub try_keeps : (mark : ℕ) (c : change_type.Change) (answer : Result Verdict EngineFault) → tried.Tries schema part xid p mark c answer new → KeepsLine part new
  try_keeps mark c (Ok (ActedVerdict acted)) tries = acts_keeps part new xid p mark schema c (told (Ok acted)) tries
  try_keeps mark c (Ok (Clashes clash)) tries = subst (KeepsLine part) (sym tries.2) (record { start = refl; line = refl })
  try_keeps mark c (Err fault) tries = acts_keeps part new xid p mark schema c (Err (told_fault fault)) tries

  pub back_lifts : (mark : ℕ) → steps.GoesBack part xid p mark new → GoesBack table part xid mark new
  back_lifts mark goes w o sub has at cuts = subst (HasPart table _) (sym goes) (back_told table w part has xid o p at here sub mark cuts)

  pub commit_lifts : (info : CommitInfo) → steps.Commits schema part xid p info new → Commits schema table part xid info new
  commit_lifts info commits w o has at = subst (HasPart table _) (sym commits) (ends_here table w part has xid o p at here schema info)

  pub commit_line : (info : CommitInfo) → steps.Commits schema part xid p info new → CommitsLine schema table part xid info new
  commit_line info commits w o has line at =
      subst (HasLine table _) (sym commits) (line_here schema table w part has line xid o at info p here)

pub abort_lifts : (table : ℕ) (part new : World) (xid : ℕ) → steps.Aborts part xid new → Aborts table part xid new
abort_lifts table part new xid aborts w has = subst (HasPart table _) (sym aborts) (aborts_here table w part has xid)

pub read_lifts : {E : Type 0} → (table : ℕ) (part : World) (key : Key) (result : Result (Option Row) E) → steps.ReadsCommitted part (table, key) result
    → (w : World) → HasPart table w part → steps.ReadsCommitted w (table, key) result
read_lifts table part key (Ok row) reads w has =
    reads ∙ ap (λ (rows : Rows). get rows (table, key)) has.0.committed ∙ get_rows_here table w.committed key
read_lifts table part key (Err fault) reads w has = reads

pub rows_lift : {E : Type 0} (table : ℕ) (part : World) (answer : Result (Vec Row Global) E)
    → IfOk answer (λ rows. rows.items ≡ rows_of_table part.committed table)
    → (w : World) → HasPart table w part → IfOk answer (λ rows. rows.items ≡ rows_of_table w.committed table)
rows_lift table part (Ok rows) read w has =
    read ∙ ap (λ (r : Rows). rows_of_table r table) has.0.committed ∙ walked_at table w.committed
rows_lift table part (Err fault) read w has = read

pub live_lifts : {E : Type 0} (schema : Schema) (table : ℕ) (w part : World) → HasPart table w part → (key : Key) (answer : Result (Option Row) E)
    → ReadsLive schema part (table, key) answer → ReadsLive schema w (table, key) answer
live_lifts schema table w part has key (Ok row) reads = live_here schema table w part has.0 key row reads
live_lifts schema table w part has key (Err fault) reads = λ listing listed. tt
