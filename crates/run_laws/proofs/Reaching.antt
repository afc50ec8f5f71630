-- What is told leads from the world of one state to that of the next.
use Rattle.std.proofs.Common.{◌≡◌, ℕ, List, [], ◌∷◌, ◌++◌, Option, Some, None, refl, sym, ap, subst, ◌∙◌, append_assoc, append-nil}
use Rattle.std.specs.Prelude.{map}
use Rattle.std.proofs.lemmas.Grind.{flat_map-append}
use Rattle.std.proofs.lemmas.List.{map-append}
use Rattle.std.specs.FinMap as finite
use Rattle.model.specs.declared.change.Change as change_type
use Rattle.model.specs.declared.item.Item.{Item}
use Rattle.model.specs.declared.item.Item.TheVariants.{Change, Touch, BackTo, Last}
use Rattle.model.specs.Rows.{Rows, Schema}
use Rattle.model.specs.Effect.{serial}
use Rattle.model.specs.EffectLemmas.{serial_append}
use Rattle.model.specs.Survivors.{survivors, changes_of}
use Rattle.model.specs.SurvivorLemmas.{work_with_change, survivors_with}
use Rattle.frames.specs.declared.item.CopyItem.{CopyItem}
use Rattle.frames.specs.declared.item.CopyItem.TheVariants.{Wal, Keepalive, Done}
use Rattle.session.specs.declared.phase.Phase.{Phase}
use Rattle.session.specs.declared.phase.Phase.TheVariants.{Outside, Begun, Block}
use Rattle.session.specs.Sized.{item_of}
use Rattle.session.specs.State.{Way, Direct, Worker, Spooled, Open, OpenTransactions, Committed, State, Setting}
use Rattle.session.specs.StreamEvents.{StreamEvent, NoEvent, TransactionOpens, ItemComes, TransactionCommits, TransactionAborts, Tells, IsChange}
use Rattle.run.specs.Commits.{changes_of_entries, entry_of_commit, begun_changes, begun_changes_in, all_changes, open_changes}
use Rattle.model.specs.Accepted.{AreAccepted}
use Rattle.run.specs.Progress.{Progress, Handles, Leads, start_progress}
use Rattle.world.specs.World.{Past, Entry, World, changes_in, starting}
use Rattle.world.specs.Steps.{Reaches, at_start, by_step}
use Rattle.run_laws.proofs.Begun.{IsSane, open_items, begun_in, begun, if_direct, Moves, IsTold}
use Rattle.run_laws.proofs.WorldAt.{committed_past, open_ones, world_at}
use Rattle.run_laws.proofs.Telling.{told, tells_nothing, sane_start}
use Rattle.run_laws.proofs.Alone.{plain_survivors, survive_again, clear_front, clear_rest, none, one, running, at, seen, step_opens, step_acts, step_commits, changes_with, does_all}

-- ---- changes, in the words of the stream and of the world

-- the changes of the transaction that was begun
abbrev changes_begun : Option (ℕ × List Item) → List change_type.Change
changes_begun None = []
changes_begun (Some b) = changes_of (survivors b.0 b.1)

-- all changes after these commits, with this transaction begun
abbrev pub done : List Committed → Option (ℕ × List Item) → List change_type.Change
done past b = changes_in (map committed_past past) ++ changes_begun b

pub work_same : (past : List Committed) → changes_in (map committed_past past) ≡ changes_of_entries (map entry_of_commit past)
work_same [] = refl
work_same (c ∷ past) =
    flat_map-append (λ (p : Past). changes_of (survivors p.xid p.items)) (committed_past c ∷ []) (map committed_past past)
    ∙ ap (λ cs. cs ++ changes_in (map committed_past past)) (append-nil _ ∙ ap changes_of (survive_again c.xid (map item_of c.items)))
    ∙ ap (λ cs. changes_of (survivors c.xid (map item_of c.items)) ++ cs) (work_same past)
    ∙ ap (λ cs. cs ++ changes_of_entries (map entry_of_commit past)) (sym (append-nil _))
    ∙ sym (flat_map-append (λ (e : Entry). e.changes) (entry_of_commit c ∷ []) (map entry_of_commit past))

begun_same : (p : Phase) (m : OpenTransactions) → begun_changes_in p m ≡ changes_begun (begun_in p m)
begun_same Outside m = refl
begun_same (Block xid) m = refl
begun_same (Begun xid final) m = by_found (finite.get m xid)
  where
    by_found : (found : Option Open) → open_changes xid found ≡ changes_of (survivors xid (open_items found))
    by_found None = refl
    by_found (Some o) = refl

pub all_done : (s : State) → all_changes s ≡ done s.past (begun s)
all_done s =
    ap (λ cs. cs ++ begun_changes s) (sym (work_same s.past))
    ∙ ap (λ cs. changes_in (map committed_past s.past) ++ cs) (begun_same s.phase s.transactions)

pub done_at : (t : State) (past : List Committed) (b : Option (ℕ × List Item)) → t.past ≡ past → begun t ≡ b
    → done t.past (begun t) ≡ done past b
done_at t past b e f = ap (λ p. done p (begun t)) e ∙ ap (done past) f

-- with one change more
pub with_change : (past : List Committed) (xid sub : ℕ) (items : List Item) (c : change_type.Change)
    → done past (Some (xid, items ++ Change sub c ∷ [])) ≡ done past (Some (xid, items)) ++ c ∷ []
with_change past xid sub items c =
    ap (λ cs. changes_in (map committed_past past) ++ cs) (work_with_change xid sub items c)
    ∙ sym (append_assoc (changes_in (map committed_past past)) (changes_of (survivors xid items)) (c ∷ []))

-- the rows behind all of them are those that the transaction sees
pub seen_done : (schema : Schema) (rows : Rows) (past : List Committed) (xid : ℕ) (items : List Item)
    → serial schema rows (done past (Some (xid, items))) ≡ seen schema rows (map committed_past past) xid (survivors xid items)
seen_done schema rows past xid items =
    serial_append schema rows (changes_in (map committed_past past)) (changes_of (survivors xid items))
    ∙ ap (λ is. serial schema (serial schema rows (changes_in (map committed_past past))) (changes_of is)) (sym (survive_again xid items))

module _ (schema : Schema) (rows : Rows) (from : World) where
  -- where the stream stands
  abbrev pub stands : List Committed → Option (ℕ × List Item) → World
  stands past b = at schema rows (map committed_past past) (open_ones b)

  -- the world of the state is reached
  abbrev pub IsAt : State → Type 0
  IsAt s = Reaches schema from (stands s.past (begun s))

  pub world_is : (s : State) → world_at schema rows s ≡ stands s.past (begun s)
  world_is s =
      ap (λ cs. running schema rows (serial schema rows cs) (map committed_past s.past) (open_ones (begun s))) (sym (work_same s.past))

  stood : (s : State) (past : List Committed) (b : Option (ℕ × List Item)) → s.past ≡ past → begun s ≡ b
      → IsAt s → Reaches schema from (stands past b)
  stood s past b e f reached =
      subst (Reaches schema from) (ap (λ p. stands p (begun s)) e ∙ ap (stands past) f) reached

  stands_now : (t : State) (past : List Committed) (b : Option (ℕ × List Item)) → t.past ≡ past
      → begun t ≡ b → Reaches schema from (stands past b) → IsAt t
  stands_now t past b e f reached =
      subst (Reaches schema from) (sym (ap (λ p. stands p (begun t)) e ∙ ap (stands past) f)) reached

  clear_now : (t : State) (past : List Committed) (b : Option (ℕ × List Item)) → t.past ≡ past → begun t ≡ b
      → AreAccepted schema rows (done t.past (begun t)) → AreAccepted schema rows (done past b)
  clear_now t past b e f clear = subst (AreAccepted schema rows) (done_at t past b e f) clear

  -- ---- what is told

  -- The next state is reached where its changes are clear, and its changes are those before, and more.
  abbrev pub Moved : State → State → Type 0
  Moved s t =
      (AreAccepted schema rows (done t.past (begun t)) → IsAt s → IsAt t) × ((cs : List change_type.Change) × (done t.past (begun t) ≡ done s.past (begun s) ++ cs))

  stays : (s t : State) → t.past ≡ s.past → begun t ≡ begun s → Moved s t
  stays s t past same = (
    λ clear reached. stands_now t s.past (begun s) past same reached,
    ([], done_at t s.past _ past same ∙ sym (append-nil _)),
  )

  begins : (s t : State) (xid : ℕ) → t.past ≡ s.past → begun s ≡ None → begun t ≡ Some (xid, []) → Moved s t
  begins s t xid past was is = (
    λ clear reached. stands_now t s.past (Some (xid, [])) past is
        (by_step (stands s.past None) (stands s.past (Some (xid, []))) (stood s s.past None refl was reached) (step_opens schema rows (map committed_past s.past) xid)),
    ([], done_at t s.past _ past is ∙ sym (ap (done s.past) was) ∙ sym (append-nil _)),
  )

  changes : (s t : State) (xid sub : ℕ) (c : change_type.Change) (items : List Item) → t.past ≡ s.past
      → begun s ≡ Some (xid, items) → begun t ≡ Some (xid, items ++ Change sub c ∷ [])
      → Moved s t
  changes s t xid sub c items past was is =
      let line = map committed_past s.past in
      let survived = survivors xid items in
      let before = done s.past (Some (xid, items)) in
      let more = with_change s.past xid sub items c in (
        λ clear reached.
            let all : AreAccepted schema rows (before ++ c ∷ []) =
            subst (AreAccepted schema rows) more (clear_now t s.past _ past is clear) in
            let well : AreAccepted schema (seen schema rows line xid survived) (c ∷ []) =
            subst (λ r. AreAccepted schema r (c ∷ [])) (seen_done schema rows s.past xid items) (clear_rest schema rows before (c ∷ []) all) in
            stands_now t s.past (Some (xid, items ++ Change sub c ∷ [])) past is
            (subst (λ is. Reaches schema from (at schema rows line (one xid is))) (sym (survivors_with xid items (Change sub c)))
            (by_step (at schema rows line (one xid survived)) (at schema rows line (one xid (survived ++ Change sub c ∷ []))) (stood s s.past (Some (xid, items)) refl was reached)
            (step_acts schema rows line xid survived sub c well.0))),
        (c ∷ [], done_at t s.past _ past is ∙ more ∙ ap (λ b. done s.past b ++ c ∷ []) (sym was)),
      )

  -- the line with one commit more
  line_with : (past : List Committed) (c : Committed)
      → map committed_past (past ++ c ∷ []) ≡ map committed_past past ++ committed_past c ∷ []
  line_with past c = map-append committed_past past (c ∷ [])

  pub done_with : (past : List Committed) (c : Committed)
      → done (past ++ c ∷ []) None ≡ changes_in (map committed_past past) ++ changes_of (survivors c.xid (map item_of c.items))
  done_with past c =
      append-nil _ ∙ ap changes_in (line_with past c) ∙ changes_with schema rows (map committed_past past) c.xid (survivors c.xid (map item_of c.items)) c.info
      ∙ ap (λ is. changes_in (map committed_past past) ++ changes_of is) (survive_again c.xid (map item_of c.items))

  commits_direct : (s t : State) (c : Committed) → t.past ≡ s.past ++ c ∷ []
      → begun s ≡ Some (c.xid, map item_of c.items) → begun t ≡ None → Moved s t
  commits_direct s t c past was is =
      let line = map committed_past s.past in
      let survived = survivors c.xid (map item_of c.items) in (
        λ clear reached.
            stands_now t (s.past ++ c ∷ []) None past is
            (subst (λ l. Reaches schema from (at schema rows l none)) (sym (line_with s.past c))
            (by_step (at schema rows line (one c.xid survived)) (at schema rows (line ++ committed_past c ∷ []) none) (stood s s.past _ refl was reached)
            (step_commits schema rows line c.xid survived c.info))),
        ([], done_at t (s.past ++ c ∷ []) None past is ∙ done_with s.past c ∙ sym (ap (done s.past) was) ∙ sym (append-nil _)),
      )

  commits_streamed : (s t : State) (c : Committed) → t.past ≡ s.past ++ c ∷ [] → begun s ≡ None
      → begun t ≡ None → Moved s t
  commits_streamed s t c past was is =
      let line = map committed_past s.past in
      let survived = survivors c.xid (map item_of c.items) in
      let more = done_with s.past c in (
        λ clear reached.
            let here : AreAccepted schema rows (changes_in line ++ changes_of survived) =
            subst (AreAccepted schema rows) more (clear_now t (s.past ++ c ∷ []) None past is clear) in
            let alone : AreAccepted schema (serial schema rows (changes_in line)) (changes_of survived) =
            clear_rest schema rows (changes_in line) (changes_of survived) here in
            let opened : Reaches schema from (at schema rows line (one c.xid [])) =
            by_step (at schema rows line none) (at schema rows line (one c.xid [])) (stood s s.past None refl was reached) (step_opens schema rows line c.xid) in
            let worked : Reaches schema from (at schema rows line (one c.xid survived)) =
            does_all schema rows from line c.xid [] survived (plain_survivors c.xid (map item_of c.items)) alone opened in
            stands_now t (s.past ++ c ∷ []) None past is
            (subst (λ l. Reaches schema from (at schema rows l none)) (sym (line_with s.past c))
            (by_step (at schema rows line (one c.xid survived)) (at schema rows (line ++ committed_past c ∷ []) none) worked
            (step_commits schema rows line c.xid survived c.info))),
        (
          changes_of survived,
          done_at t (s.past ++ c ∷ []) None past is ∙ more
              ∙ ap (λ cs. cs ++ changes_of survived) (sym (append-nil (changes_in line)) ∙ sym (ap (done s.past) was)),
        ),
      )

  gives_direct : (s t : State) (xid : ℕ) (item : Item) (items : List Item) → IsChange item → t.past ≡ s.past
      → begun s ≡ Some (xid, items) → begun t ≡ Some (xid, items ++ item ∷ []) → Moved s t
  gives_direct s t xid (Change sub c) items change past was is = changes s t xid sub c items past was is
  gives_direct s t xid (Touch sub) items change past was is = absurd change
  gives_direct s t xid (BackTo sub) items change past was is = absurd change
  gives_direct s t xid Last items change past was is = absurd change

  commits_by : (s t : State) (c : Committed) (way : Way) → t.past ≡ s.past ++ c ∷ []
      → begun s ≡ if_direct c.xid way c.items → begun t ≡ None → Moved s t
  commits_by s t c Direct past was is = commits_direct s t c past was is
  commits_by s t c Worker past was is = commits_streamed s t c past was is
  commits_by s t c Spooled past was is = commits_streamed s t c past was is

  by_told : (s t : State) (what : StreamEvent) → Tells s t what → Moves s t what → Moved s t
  by_told s t NoEvent tells moves = stays s t tells.past moves
  by_told s t (TransactionOpens xid Direct) tells moves = begins s t xid tells.past moves.0 moves.1
  by_told s t (TransactionOpens xid Worker) tells moves = stays s t tells.past moves
  by_told s t (TransactionOpens xid Spooled) tells moves = stays s t tells.past moves
  by_told s t (ItemComes xid Direct item size) tells moves = gives_direct s t xid item moves.1 moves.0 tells.2.past moves.2 moves.3
  by_told s t (ItemComes xid Worker item size) tells moves = stays s t tells.2.past moves
  by_told s t (ItemComes xid Spooled item size) tells moves = stays s t tells.2.past moves
  by_told s t (TransactionCommits c) tells moves = commits_by s t c c.way tells.past moves.0 moves.1
  by_told s t (TransactionAborts xid Direct) tells moves = absurd moves
  by_told s t (TransactionAborts xid Worker) tells moves = stays s t tells.2.past moves
  by_told s t (TransactionAborts xid Spooled) tells moves = stays s t tells.2.past moves

  pub moved : (s t : State) → IsTold s t → Moved s t
  moved s t is = by_told s t is.0 is.1 is.2

-- ---- items

pub handled_told : (g : Setting) (p q : Progress) (item : CopyItem) → IsSane p.state → Handles g p item q
    → IsTold p.state q.state
handled_told g p q (Wal first last payload) sane is = told g p.state q.state _ is.0 sane is.1.stepped
handled_told g p q (Keepalive last reply) sane is = subst (IsTold p.state) (sym is.0) (tells_nothing p.state p.state.relations sane)
handled_told g p q Done sane is =
    subst (IsTold p.state) (sym (ap (λ (r : Progress). r.state) is)) (tells_nothing p.state p.state.relations sane)

module _ (schema : Schema) (rows : Rows) (from : World) (g : Setting) where
  -- items lead to a state with the changes before, and more
  pub led_more : (p q : Progress) (items : List CopyItem) → IsSane p.state → Leads g p items q
      → (cs : List change_type.Change) × (done q.state.past (begun q.state) ≡ done p.state.past (begun p.state) ++ cs)
  led_more p q [] sane is = ([], ap (λ (r : Progress). done r.state.past (begun r.state)) (sym is) ∙ sym (append-nil _))
  led_more p q (item ∷ items) sane is =
      let now = handled_told g p is.0 item sane is.1 in
      let first = (moved schema rows from p.state is.0.state now).1 in
      let rest = led_more is.0 q items now.3 is.2 in (
        first.0 ++ rest.0,
        rest.1 ∙ ap (λ cs. cs ++ rest.0) first.1 ∙ append_assoc (done p.state.past (begun p.state)) first.0 rest.0,
      )

  -- and to a world that is reached, where no change clashed
  pub led : (p q : Progress) (items : List CopyItem) → IsSane p.state → Leads g p items q
      → AreAccepted schema rows (done q.state.past (begun q.state))
      → IsAt schema rows from p.state
      → IsAt schema rows from q.state × IsSane q.state
  led p q [] sane is clear reached =
      (subst (λ (r : Progress). IsAt schema rows from r.state) is reached, subst (λ (r : Progress). IsSane r.state) is sane)
  led p q (item ∷ items) sane is clear reached =
      let now = handled_told g p is.0 item sane is.1 in
      let rest = led_more is.0 q items now.3 is.2 in
      let before : AreAccepted schema rows (done is.0.state.past (begun is.0.state)) =
      clear_front schema rows (done is.0.state.past (begun is.0.state)) rest.0 (subst (AreAccepted schema rows) rest.1 clear) in
      led is.0 q items now.3 is.2 clear ((moved schema rows from p.state is.0.state now).0 before reached)

-- ---- from the start

pub reached_at : (g : Setting) (schema : Schema) (rows : Rows) (items : List CopyItem) (p : Progress)
    → Leads g start_progress items p → AreAccepted schema rows (all_changes p.state)
    → IsAt schema rows (starting rows) p.state × IsSane p.state
reached_at g schema rows items p is clear =
    led schema rows (starting rows) g start_progress p items sane_start is
    (subst (AreAccepted schema rows) (all_done p.state) clear) at_start

pub reached : (g : Setting) (schema : Schema) (rows : Rows) (items : List CopyItem) (p : Progress)
    → Leads g start_progress items p → AreAccepted schema rows (all_changes p.state)
    → Reaches schema (starting rows) (world_at schema rows p.state)
reached g schema rows items p is clear =
    subst (Reaches schema (starting rows)) (sym (world_is schema rows (starting rows) p.state))
    (reached_at g schema rows items p is clear).0
