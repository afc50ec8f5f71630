-- What a store whose transactions come one at a time keeps through its calls.
--     known_all      what can be undone is of tables that are there
--     if_err, on_err, taken_front      an error that is passed on; what holds anyway; what the iterator of a vector has given
--     serially_idle      what the type keeps where no work is open
--     rows_based, rows_idle      the rows without the open work are the committed ones; where none is open, those of the tables
--     worked_view, worked_kept      once the work has grown
--     unworked_view      what is seen of one whose work has not grown
--     item_applied, item_clear, item_refused      items in turn
use Rattle.std.proofs.Common.{◌≡◌, ◌++◌, ◌∷◌, [], List, None, sym, ap, subst, ◌∙◌, append_assoc, append-nil}
use Rattle.std.specs.Prelude.{Result, Ok, Err, IsErrAnd, IfErr, OnErr, map}
use Rattle.std.specs.Iterator.{Yields}
use Rattle.std.specs.Vec.Iter.{into_iter_items, into_iter_steps}
use Rattle.std.specs.declared.vec.IntoIter.{IntoIter}
use Rattle.std.specs.FinMap as finite
use Rattle.model.specs.declared.change.Change.{Change}
use Rattle.model.specs.declared.item.Item.{Item}
use Rattle.model.specs.Rows.{Rows, Schema}
use Rattle.model.specs.Effect.{all_back, serial}
use Rattle.model.specs.Survivors.{changes_of}
use Rattle.model.specs.SurvivorLemmas.{changes_of_both}
use Rattle.model.specs.Accepted.{AreAccepted}
use Rattle.model.specs.SerialLemmas.{accepted_append}
use Rattle.indexes.specs.Content.{Content}
use Rattle.change.specs.declared.inverse.Inverse.{Inverse}
use Rattle.change.specs.Inverse.{edits_of, IsKnown}
use Rattle.change.specs.declared.outcome.Clash.{Clash}
use Rattle.undo.specs.Undo.{CanUndo, AreKnownAll}
use Rattle.undo.specs.UndoLemmas.{schema_undone}
use Rattle.engine.specs.declared.serial.SerialStore.TheInside.{Inside}
use Rattle.engine.specs.FirstClash.{ClashesIn}
use Rattle.engine.specs.FirstClashLemmas.{ClashesIn-behind, ClashesIn-before}
use Rattle.engine.specs.Engine.{engine_in, world_in, Represents as StoreRepresents}
use Rattle.engine.specs.Serial.{Serial, rows_now, with_changes}
use Rattle.engine.specs.OpenWork.{Work, base_of, HasGrown}
use Rattle.engine.specs.SerialInside.{idle_in, serial_in, Represents}
use Rattle.engine.specs.SerialLemmas.{idle_rows, rows_with}
use Rattle.live_tables.specs.declared.live_tables.Live.{Live}
use Rattle.live_tables.specs.Answers.{told_stop}

-- what can be undone is of tables that are there
pub known_all : (t : Content) (is : List Inverse) → CanUndo t is → AreKnownAll t.schema is
known_all t [] can = tt
known_all t (i ∷ is) can = (subst (λ (s : Schema). IsKnown s i) (schema_undone t is) can.1.known, known_all t is can.0)

-- what holds of an error holds of the result that passes it on
pub if_err : {T E : Type 0} (result : Result T E) (e : E) (P : E → Type 0) → IsErrAnd result (λ x. x ≡ e) → P e → IfErr result P
if_err (Ok x) e P is p = absurd is
if_err (Err x) e P is p = subst P (sym is) p

-- what holds anyway holds where a call is refused
pub on_err : {T E : Type 0} (result : Result T E) (P : Type 0) → P → OnErr result P
on_err (Ok x) P p = tt
on_err (Err e) P p = p

-- what the iterator of a vector has given is a front of its items
pub taken_front : {X A : Type 0} (s : IntoIter X A) (xs : List X) (t : IntoIter X A) → Yields into_iter_steps s xs t → into_iter_items s ≡ xs ++ into_iter_items t
taken_front s [] t y = ap into_iter_items y
taken_front s (x ∷ xs) t y = y.1.0 ∙ ap (λ ys. x ∷ ys) (taken_front y.0 xs t y.2)

-- where no work is open, it is a store of which the type keeps all
pub serially_idle : (s : Inside) → StoreRepresents (idle_in s) → s.book.lists ≡ finite.empty → told_stop s.work.live.stopped ≡ None → s.token ≡ s.line
    → s.work.undo.inverses ≡ [] → s.work.changes ≡ [] → Represents s
serially_idle s idle none runs line undone unchanged = record {
  idle = idle;
  none = none;
  runs = runs;
  line = line;
  done =
      ap (λ (is : List Inverse). all_back s.work.live.tables.rows (map edits_of is)) (sym undone) ∙ idle_rows (idle_in s) idle none
      ∙ ap (serial s.work.live.tables.schema (world_in (idle_in s)).committed) (sym unchanged);
  clear = subst (AreAccepted s.work.live.tables.schema (base_of s.work)) (sym unchanged) tt;
}

module _ (s : Inside) (is : Represents s) where
  -- the rows without the open work are the committed ones
  pub rows_based : base_of s.work ≡ (world_in (idle_in s)).committed
  rows_based = idle_rows (idle_in s) is.idle is.none

  -- where no work is open, they are the rows of the tables
  pub rows_idle : s.work.changes ≡ [] → s.work.live.tables.rows ≡ base_of s.work
  rows_idle unchanged = is.done ∙ ap (serial s.work.live.tables.schema (world_in (idle_in s)).committed) unchanged ∙ sym rows_based

  -- the work has grown by changes
  module _ (w : Work) (cs : List Change) (grown : HasGrown s.work cs w) where
    abbrev worked : Inside
    worked = record s { work = w }

    same_idle : idle_in worked ≡ idle_in s
    same_idle = λ i. record (idle_in s) { live = record (grown.live i) { tables = record { schema = grown.schema i; rows = grown.base i; room = [] } } }

    pub worked_view : serial_in worked ≡ with_changes (serial_in s) cs
    worked_view = λ i. record { store = engine_in (same_idle i); changes = grown.changes i }

    pub worked_kept : Represents worked
    worked_kept = record {
      idle = subst StoreRepresents (sym same_idle) is.idle;
      none = is.none;
      runs = ap (λ (l : Live). told_stop l.stopped) grown.live ∙ is.runs;
      line = is.line;
      done = grown.rows ∙ ap (λ (r : Rows). serial s.work.live.tables.schema r cs) is.done ∙ sym (rows_with (serial_in s) cs) ∙ ap rows_now (sym worked_view);
      clear =
          let behind : AreAccepted s.work.live.tables.schema (serial s.work.live.tables.schema (base_of s.work) s.work.changes) cs =
          subst (λ (r : Rows). AreAccepted s.work.live.tables.schema r cs) (is.done ∙ ap (λ (r : Rows). serial s.work.live.tables.schema r s.work.changes) (sym rows_based)) grown.clear in
          let all = accepted_append s.work.live.tables.schema (base_of s.work) s.work.changes cs is.clear behind in
          subst (λ (ds : List Change). AreAccepted w.live.tables.schema (base_of w) ds) (sym grown.changes)
          (subst (λ (keys : Schema). AreAccepted keys (base_of w) (s.work.changes ++ cs)) (sym grown.schema)
          (subst (λ (r : Rows). AreAccepted s.work.live.tables.schema r (s.work.changes ++ cs)) (sym grown.base) all));
    }

  -- it has not grown
  pub unworked_view : (w : Work) → HasGrown s.work [] w → serial_in (record s { work = w }) ≡ serial_in s
  unworked_view w same = worked_view w [] same ∙ ap (λ (cs : List Change). record (serial_in s) { changes = cs }) (append-nil s.work.changes)

-- ---- items in turn

-- one item more was applied
pub item_applied : (w v u : Serial) (items : List Item) (item : Item) → v ≡ with_changes w (changes_of items) → u ≡ with_changes v (changes_of (item ∷ [])) → u ≡ with_changes w (changes_of (items ++ item ∷ []))
item_applied w v u items item first second =
    second
    ∙ ap (λ (x : Serial). with_changes x (changes_of (item ∷ []))) first
    ∙ ap (λ (cs : List Change). record w { changes = cs }) (append_assoc w.changes (changes_of items) (changes_of (item ∷ [])) ∙ ap (λ (cs : List Change). w.changes ++ cs) (sym (changes_of_both items (item ∷ []))))

pub item_clear : (w v : Serial) (items : List Item) (item : Item) → v ≡ with_changes w (changes_of items) → AreAccepted w.store.schema (rows_now w) (changes_of items) → AreAccepted v.store.schema (rows_now v) (changes_of (item ∷ [])) → AreAccepted w.store.schema (rows_now w) (changes_of (items ++ item ∷ []))
item_clear w v items item first clear here =
    let there : AreAccepted w.store.schema (rows_now (with_changes w (changes_of items))) (changes_of (item ∷ [])) = subst (λ (x : Serial). AreAccepted x.store.schema (rows_now x) (changes_of (item ∷ []))) first here in
    subst (AreAccepted w.store.schema (rows_now w)) (sym (changes_of_both items (item ∷ [])))
    (accepted_append w.store.schema (rows_now w) (changes_of items) (changes_of (item ∷ [])) clear
    (subst (λ (at : Rows). AreAccepted w.store.schema at (changes_of (item ∷ []))) (rows_with w (changes_of items)) there))

-- an item among others was refused
pub item_refused : (w v : Serial) (items more : List Item) (item : Item) (clash : Clash) → v ≡ with_changes w (changes_of items) → AreAccepted w.store.schema (rows_now w) (changes_of items) → ClashesIn v.store.schema (rows_now v) (changes_of (item ∷ [])) clash → ClashesIn w.store.schema (rows_now w) (changes_of (items ++ item ∷ more)) clash
item_refused w v items more item clash first clear here =
    let there : ClashesIn w.store.schema (rows_now (with_changes w (changes_of items))) (changes_of (item ∷ [])) clash = subst (λ (x : Serial). ClashesIn x.store.schema (rows_now x) (changes_of (item ∷ [])) clash) first here in
    let at_rows : ClashesIn w.store.schema (serial w.store.schema (rows_now w) (changes_of items)) (changes_of (item ∷ [])) clash = subst (λ (at : Rows). ClashesIn w.store.schema at (changes_of (item ∷ [])) clash) (rows_with w (changes_of items)) there in
    subst (λ (cs : List Change). ClashesIn w.store.schema (rows_now w) cs clash)
    (ap (λ (cs : List Change). changes_of items ++ cs) (sym (changes_of_both (item ∷ []) more)) ∙ sym (changes_of_both items (item ∷ more)))
    (ClashesIn-behind w.store.schema (rows_now w) (changes_of items) (changes_of (item ∷ []) ++ changes_of more) clash clear
    (ClashesIn-before w.store.schema (serial w.store.schema (rows_now w) (changes_of items)) (changes_of (item ∷ [])) (changes_of more) clash at_rows))
