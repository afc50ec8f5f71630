-- What the calls of a part come to where a change is one of several tables.
--     kept_same, kept_adopted      what was attempted is kept: it came under the ticket's mark, or comes under it now
--     can_adopt, may_wait      what the calls that keep it and take it back ask
--     BackThen, back_then      a rollback to its own mark
--     left_none, left_waiting      what was attempted is taken back, of a transaction that waited with nothing, or with a change
--     never_skips, never_clashes      a truncate does neither
--     refused_at_once, refused_then      it is refused before it was tried, or then
--     attempted, held_up, never_else, refused_as_tried      what comes of it, by a part and a ticket that were told to be these
use Rattle.std.proofs.Common.{◌≡◌, ◌≢◌, ℕ, true, false, List, [], ◌∷◌, ◌++◌, length, Option, Some, None, refl, sym, ap, subst, ◌∙◌, inl, inr}
use Rattle.std.specs.Prelude.{Result, Ok, Err, OnErr, IsSome, IfSome, if◌then◌else◌}
use Rattle.std.specs.FinMap.{get, insert}
use Rattle.std.proofs.lemmas.Bool.{ne_eqb, eq-eqb}
use Rattle.model.specs.declared.change.Change as change_type
use Rattle.model.specs.declared.change.Change.TheVariants.{Wipe}
use Rattle.model.specs.declared.item.Item.{Item}
use Rattle.model.specs.declared.item.Item.TheVariants.{Change, BackTo}
use Rattle.model.specs.Effect.{ClashCause, Skip, Clashes, outcome}
use Rattle.model.specs.Named.{NamesTables}
use Rattle.model.specs.Rows.{Schema, Rows}
use Rattle.model.specs.Survivors.{survivors, before_savepoint, after_item}
use Rattle.model.specs.SurvivorLemmas.{survivors_with}
use Rattle.savepoint.specs.Adopted.{adopted, CanAdopt}
use Rattle.savepoint.specs.AdoptedLemmas.{adopted_last}
use Rattle.savepoint.proofs.Marked.{before-last, before-none}
use Rattle.world.specs.World.{Opened, World, OpenOnes, own_rows}
use Rattle.world.specs.Steps as steps
use Rattle.world.specs.Steps.{Fault, Acts, IsDone, done_with, wanting}
use Rattle.world.specs.FineLemmas.{refused_stays}
use Rattle.world.specs.ListingLemmas.{xid_cases, got_same, got_other, same_by_xid}
use Rattle.live_tables.specs.Adopting.{adopted_with}
use Rattle.live_tables.specs.declared.answers.Acted.TheVariants.{Done as DoneAnswer, Skipped as SkippedAnswer, Held as HeldAnswer}
use Rattle.live_tables.specs.declared.answers.Verdict.{Verdict}
use Rattle.live_tables.specs.declared.answers.Verdict.TheVariants.{Acted as ActedVerdict, Clashes as ClashVerdict}
use Rattle.live_tables.specs.Answers.{told_fault}
use Rattle.live_tables.specs.Tried.{Tries}
use Rattle.live_tables.specs.declared.answers.EngineFault.{EngineFault}
use Rattle.engine.specs.declared.events.Event.TheVariants.{Done, Wants, Adopted}
use Rattle.engine.specs.Engine.{IsOtherwiseSame}
use Rattle.engine.specs.Events.{opened_by, tried_events, refusal_events}
use Rattle.engine.specs.EventLemmas.{opened_more, opened_refused}
use Rattle.table_parts.specs.Part.{Part, last_commit_end}
use Rattle.table_parts.specs.declared.several.Attempt.{Attempt}
use Rattle.table_parts.specs.Several.{Share, is_known, FitsOwn, IsSameAs, IsAttempted, IsKept, IsLeft, IsWaiting, IsRefused}

-- put in once more at the same number
inserted_again : (ones : OpenOnes) (xid : ℕ) (o p : Opened) → insert (insert ones xid o) xid p ≡ insert ones xid p
inserted_again ones xid o p =
    same_by_xid (insert (insert ones xid o) xid p) (insert ones xid p) (λ q.
    elim (xid_cases q xid) [
      | inl here ↦ ap (get (insert (insert ones xid o) xid p)) here ∙ got_same (insert ones xid o) xid p ∙ sym (ap (get (insert ones xid p)) here ∙ got_same ones xid p)
      | inr apart ↦ got_other (insert ones xid o) xid p q apart ∙ got_other ones xid o q apart ∙ sym (got_other ones xid p q apart)
    ])

-- one part after another is still the same
pub same_after : (p q r : Part) → IsSameAs p q → r.number ≡ q.number → IsOtherwiseSame q.store r.store → last_commit_end r ≡ last_commit_end q → IsSameAs p r
same_after p q r first number store ends = record {
  number = number ∙ first.number;
  store = record { schema = store.schema ∙ first.store.schema; tickets = store.tickets ∙ first.store.tickets; line = store.line ∙ first.store.line };
  ends = ends ∙ first.ends;
}

module _ (p : Part) (share : Share) (mark : ℕ) (c : change_type.Change) (a : Attempt) (q : Part) (new : Share) (is : IsAttempted p share mark c a q new) where
  abbrev o : Opened
  o = opened_by share.list

  abbrev n : ℕ
  n = share.number

  abbrev done : Opened
  done = record { items = o.items ++ Change a.own c ∷ []; wants = None }

  -- the transaction and the part then
  tells : opened_by new.list ≡ done
  tells = ap (λ (s : Share). opened_by s.list) is.share_is ∙ opened_more share.list (Done (Change a.own c))

  number_is : new.number ≡ n
  number_is = ap (λ (s : Share). s.number) is.share_is

  name_is : new.name ≡ share.name
  name_is = ap (λ (s : Share). s.name) is.share_is

  world_is : q.store.world ≡ done_with p.store.world n o (Change a.own c)
  world_is = is.acts.3

  -- ---- it is kept

  pub kept_same : a.own ≡ mark → IsKept p share mark c q new
  kept_same same = record {
    stood = is.stood;
    acts = subst (λ (m : ℕ). Acts p.store.schema p.store.world n o m c (Ok IsDone) q.store.world) same is.acts;
    tells = tells ∙ ap (λ (m : ℕ). record { items = o.items ++ Change m c ∷ []; wants = None }) same;
    name = name_is;
    number = number_is;
    same = is.same;
  }

  known_where : a.own ≢ mark → mark ≢ n → is_known share mark ≡ true
  known_where differs =
      elim is.own.adopts [
        | inl same ↦ absurd (differs same)
        | inr known ↦ known.1
      ]

  pub can_adopt : a.own ≢ mark → CanAdopt new.number a.own mark (opened_by new.list).items
  can_adopt differs =
      subst (λ (k : ℕ). CanAdopt k a.own mark (opened_by new.list).items) (sym number_is)
      (record {
        front = o.items;
        change = c;
        is = ap (λ (r : Opened). r.items) tells;
        alone = is.own.alone;
        below = is.own.below;
        apart = differs;
        known = known_where differs;
      })

  pub kept_adopted : (r : Part) (last : Share) → r.store.world ≡ adopted_with q.store.world new.number (opened_by new.list) mark
      → last ≡ record new { list = new.list ++ Adopted mark ∷ [] } → r.number ≡ q.number → IsOtherwiseSame q.store r.store → last_commit_end r ≡ last_commit_end q
      → IsKept p share mark c r last
  kept_adopted r last world share_is number store ends = record {
    stood = is.stood;
    acts = (is.acts.0, is.acts.1, is.acts.2, world_then);
    tells =
        ap (λ (s : Share). opened_by s.list) share_is ∙ opened_more new.list (Adopted mark)
        ∙ ap (λ (r : Opened). record { items = adopted mark r.items; wants = None }) tells
        ∙ ap (λ (items : List Item). record { items = items; wants = None }) (adopted_last mark a.own o.items c);
    name = ap (λ (s : Share). s.name) share_is ∙ name_is;
    number = ap (λ (s : Share). s.number) share_is ∙ number_is;
    same = same_after p q r is.same number store ends;
  }
    where
      world_then : r.store.world ≡ done_with p.store.world n o (Change mark c)
      world_then =
          world
          ∙ (λ i. adopted_with (world_is i) (number_is i) (tells i) mark)
          ∙ ap (λ (ones : OpenOnes). record p.store.world { opened = ones })
          (inserted_again p.store.world.opened n done (record { items = adopted mark done.items; wants = None })
          ∙ ap (λ (items : List Item). insert p.store.world.opened n (record { items = items; wants = None })) (adopted_last mark a.own o.items c))

  -- ---- it is taken back

  abbrev undone : Opened
  undone = record { items = done.items ++ BackTo a.own ∷ []; wants = None }

  undone_items : survivors n undone.items ≡ survivors n o.items
  undone_items =
      survivors_with n done.items (BackTo a.own)
      ∙ ap (λ (items : List Item). after_item n items (BackTo a.own)) (survivors_with n o.items (Change a.own c))
      ∙ ap (λ b. if b then (survivors n o.items ++ Change a.own c ∷ []) else before_savepoint a.own (survivors n o.items ++ Change a.own c ∷ [])) (ne_eqb a.own n is.own.below)
      ∙ before-last a.own (survivors n o.items) (Change a.own c) (eq-eqb a.own a.own refl)
      ∙ before-none a.own (survivors n o.items) is.own.alone

  -- the part and the ticket behind the rollback
  pub record BackThen (r : Part) (last : Share) : Type 0 where
    pub world : r.store.world ≡ record p.store.world { opened = insert p.store.world.opened n undone }
    pub tells : opened_by last.list ≡ undone
    pub name : last.name ≡ share.name
    pub number : last.number ≡ n
    pub same : IsSameAs p r

  pub back_then : (r : Part) (last : Share) → steps.GoesBack q.store.world new.number (opened_by new.list) a.own r.store.world
      → last ≡ record new { list = new.list ++ Done (BackTo a.own) ∷ [] } → r.number ≡ q.number → IsOtherwiseSame q.store r.store → last_commit_end r ≡ last_commit_end q
      → BackThen r last
  back_then r last world share_is number store ends = record {
    world =
        world
        ∙ (λ i. done_with (world_is i) (number_is i) (tells i) (BackTo a.own))
        ∙ ap (λ (ones : OpenOnes). record p.store.world { opened = ones }) (inserted_again p.store.world.opened n done undone);
    tells =
        ap (λ (s : Share). opened_by s.list) share_is ∙ opened_more new.list (Done (BackTo a.own))
        ∙ ap (λ (r : Opened). record { items = r.items ++ BackTo a.own ∷ []; wants = None }) tells;
    name = ap (λ (s : Share). s.name) share_is ∙ name_is;
    number = ap (λ (s : Share). s.number) share_is ∙ number_is;
    same = same_after p q r is.same number store ends;
  }

  module _ (r : Part) (last : Share) (back : BackThen r last) where
    -- the part runs still
    pub runs_then : r.store.world.stopped ≡ None
    runs_then = ap (λ (w : World). w.stopped) back.world ∙ is.acts.0

    -- the transaction waited with nothing
    pub left_none : a.waited ≡ None → IsLeft p share r last
    left_none none = record {
      stood = is.stood;
      world = back.world ∙ ap (λ (v : Opened). record p.store.world { opened = insert p.store.world.opened n v }) (sym back.tells);
      items = ap (λ (v : Opened). survivors n v.items) back.tells ∙ undone_items;
      wants = ap (λ (v : Opened). v.wants) back.tells ∙ sym none ∙ is.waited;
      name = back.name;
      number = back.number;
      same = back.same;
    }

    -- it waits again
    module _ (m : ℕ) (d : change_type.Change) (waited : a.waited ≡ Some (m, d)) where
      pub may_wait : NamesTables (length r.store.schema) d
      may_wait =
          subst (λ (s : Schema). NamesTables (length s) d) (sym back.same.store.schema)
          (subst (λ (w : Option (ℕ × change_type.Change)). IfSome w (λ (v : ℕ × change_type.Change). NamesTables (length p.store.schema) v.1)) waited is.named)

      pub left_waiting : (z : Part) (end : Share) → z.store.world ≡ wanting r.store.world last.number (opened_by last.list) m d
          → end ≡ record last { list = last.list ++ Wants m d ∷ [] } → z.number ≡ r.number → IsOtherwiseSame r.store z.store → last_commit_end z ≡ last_commit_end r
          → IsLeft p share z end
      left_waiting z end world share_is number store ends =
          let waits : opened_by end.list ≡ record undone { wants = Some (m, d) } =
          ap (λ (s : Share). opened_by s.list) share_is ∙ opened_more last.list (Wants m d) ∙ ap (λ (v : Opened). record v { wants = Some (m, d) }) back.tells in
          record {
            stood = is.stood;
            world =
                world
                ∙ (λ i. wanting (back.world i) (back.number i) (back.tells i) m d)
                ∙ ap (λ (ones : OpenOnes). record p.store.world { opened = ones }) (inserted_again p.store.world.opened n undone (record undone { wants = Some (m, d) }))
                ∙ ap (λ (v : Opened). record p.store.world { opened = insert p.store.world.opened n v }) (sym waits);
            items = ap (λ (v : Opened). survivors n v.items) waits ∙ undone_items;
            wants = ap (λ (v : Opened). v.wants) waits ∙ sym waited ∙ is.waited;
            name = ap (λ (s : Share). s.name) share_is ∙ back.name;
            number = ap (λ (s : Share). s.number) share_is ∙ back.number;
            same = same_after p r z back.same number store ends;
          }

-- ---- a truncate is done, or waits

pub never_skips : (schema : Schema) (rows : Rows) (tables : List ℕ) → ¬ (outcome schema rows (Wipe tables) ≡ Skip)
never_skips schema rows tables skipped = cc

pub never_clashes : (schema : Schema) (rows : Rows) (tables : List ℕ) (cause : ClashCause) → ¬ (outcome schema rows (Wipe tables) ≡ Clashes cause)
never_clashes schema rows tables cause clashes = cc

-- ---- it is refused

pub on_err : {T E : Type 0} (r : Result T E) (P : Type 0) → P → OnErr r P
on_err (Ok x) P h = tt
on_err (Err e) P h = h

-- what is there is put there again
put_same : (ones : OpenOnes) (xid : ℕ) (o : Opened) → get ones xid ≡ Some o → insert ones xid o ≡ ones
put_same ones xid o is =
    same_by_xid (insert ones xid o) ones (λ q.
    elim (xid_cases q xid) [
      | inl here ↦ ap (get (insert ones xid o)) here ∙ got_same ones xid o ∙ sym is ∙ sym (ap (get ones) here)
      | inr apart ↦ got_other ones xid o q apart
    ])

-- the world is the same, and the ticket tells of the transaction what it told
refused_as : (p : Part) (share : Share) (q : Part) (new : Share) → get p.store.world.opened share.number ≡ Some (opened_by share.list)
    → q.store.world ≡ p.store.world → opened_by new.list ≡ opened_by share.list → new.name ≡ share.name → new.number ≡ share.number → IsSameAs p q
    → IsRefused p share q new
refused_as p share q new stood world tells name number same = record {
  left = record {
    stood = stood;
    world =
        world
        ∙ ap (λ (ones : OpenOnes). record p.store.world { opened = ones }) (sym (put_same p.store.world.opened share.number (opened_by share.list) stood))
        ∙ ap (λ (o : Opened). record p.store.world { opened = insert p.store.world.opened share.number o }) (sym tells);
    items = ap (λ (o : Opened). survivors share.number o.items) tells;
    wants = ap (λ (o : Opened). o.wants) tells;
    name = name;
    number = number;
    same = same;
  };
  world = world;
}

pub same_itself : (p : Part) → IsSameAs p p
same_itself p = record { number = refl; store = record { schema = refl; tickets = refl; line = refl }; ends = refl }

-- before anything was tried
pub refused_at_once : (p : Part) (share : Share) → get p.store.world.opened share.number ≡ Some (opened_by share.list) → IsRefused p share p share
refused_at_once p share stood = refused_as p share p share stood refl refl refl refl (same_itself p)

module _ (p : Part) (share : Share) (q : Part) (new : Share) (stood : get p.store.world.opened share.number ≡ Some (opened_by share.list)) (same : IsSameAs p q) (own : ℕ) where
  abbrev cut : change_type.Change
  cut = Wipe (p.number ∷ [])

  refused_by : (fault : Fault) → q.store.world ≡ p.store.world → new ≡ record share { list = share.list ++ refusal_events fault } → IsRefused p share q new
  refused_by fault world told =
      refused_as p share q new stood world (ap (λ (s : Share). opened_by s.list) told ∙ opened_refused share.list fault)
      (ap (λ (s : Share). s.name) told) (ap (λ (s : Share). s.number) told) same

  -- when it was tried
  pub refused_then : (fault : EngineFault) → steps.IsRefused p.store.world (told_fault fault) q.store.world
      → new ≡ record share { list = share.list ++ refusal_events (told_fault fault) } → IsRefused p share q new
  refused_then fault refused told = refused_by (told_fault fault) (refused_stays p.store.world q.store.world (told_fault fault) refused) told

-- ---- what came of it, by a part and a ticket that were told to be these

-- what a truncate never comes to
abbrev pub IsElse : Verdict → Type 0
IsElse (ActedVerdict DoneAnswer) = ⊥
IsElse (ActedVerdict SkippedAnswer) = Unit {0}
IsElse (ActedVerdict (HeldAnswer holder)) = ⊥
IsElse (ClashVerdict clash) = Unit {0}

module _ (p : Part) (share : Share) (p1 : Part) (share1 : Share) (cut : change_type.Change) (part_is : p1 ≡ p) (ticket_is : share1 ≡ share) (cut_is : cut ≡ Wipe (p.number ∷ []))
    (stood : get p.store.world.opened share.number ≡ Some (opened_by share.list)) (own : ℕ) (answer : Result Verdict EngineFault) (q : Part) (new : Share)
    (tried : Tries p1.store.schema p1.store.world share1.number (opened_by share1.list) own cut answer q.store.world)
    (listed : new ≡ record share1 { list = share1.list ++ tried_events own cut answer })
    (number : q.number ≡ p1.number) (store : IsOtherwiseSame p1.store q.store) (ends : last_commit_end q ≡ last_commit_end p1) where
  tries : Tries p.store.schema p.store.world share.number (opened_by share.list) own (Wipe (p.number ∷ [])) answer q.store.world
  tries =
      subst (λ (u : Part). Tries u.store.schema u.store.world share.number (opened_by share.list) own (Wipe (p.number ∷ [])) answer q.store.world) part_is
      (subst (λ (s : Share). Tries p1.store.schema p1.store.world s.number (opened_by s.list) own (Wipe (p.number ∷ [])) answer q.store.world) ticket_is
      (subst (λ (d : change_type.Change). Tries p1.store.schema p1.store.world share1.number (opened_by share1.list) own d answer q.store.world) cut_is tried))

  abbrev TriesAs : Result Verdict EngineFault → Type 0
  TriesAs came = Tries p.store.schema p.store.world share.number (opened_by share.list) own (Wipe (p.number ∷ [])) came q.store.world

  tries_as : (came : Result Verdict EngineFault) → answer ≡ came → TriesAs came
  tries_as came is = subst TriesAs is tries

  told_as : (came : Result Verdict EngineFault) → answer ≡ came → new ≡ record share { list = share.list ++ tried_events own (Wipe (p.number ∷ [])) came }
  told_as came is = listed ∙ (λ i. record (ticket_is i) { list = (ticket_is i).list ++ tried_events own (cut_is i) (is i) })

  same_then : IsSameAs p q
  same_then = subst (λ (u : Part). IsSameAs u q) part_is (same_after p1 p1 q (same_itself p1) number store ends)

  -- it is done
  pub attempted : answer ≡ Ok (ActedVerdict DoneAnswer) → (mark : ℕ) (waited : Option (ℕ × change_type.Change)) → FitsOwn share mark own → waited ≡ (opened_by share.list).wants
      → IfSome waited (λ (w : ℕ × change_type.Change). NamesTables (length p.store.schema) w.1)
      → IsAttempted p share mark (Wipe (p.number ∷ [])) (record { own = own; waited = waited }) q new
  attempted is mark waited fits wants named = record {
    stood = stood;
    acts = tries_as (Ok (ActedVerdict DoneAnswer)) is;
    share_is = told_as (Ok (ActedVerdict DoneAnswer)) is;
    own = fits;
    waited = wants;
    named = named;
    same = same_then;
  }

  -- another transaction is in its way
  pub held_up : (holder : ℕ) → answer ≡ Ok (ActedVerdict (HeldAnswer holder)) → IsWaiting p share holder q new
  held_up holder is = record {
    own = own;
    stood = stood;
    acts = tries_as (Ok (ActedVerdict (HeldAnswer holder))) is;
    share_is = told_as (Ok (ActedVerdict (HeldAnswer holder))) is;
    same = same_then;
  }

  -- it is neither skipped nor clashes
  pub never_else : (verdict : Verdict) → answer ≡ Ok verdict → IsElse verdict → ⊥
  never_else (ActedVerdict DoneAnswer) is other = other
  never_else (ActedVerdict SkippedAnswer) is other =
      never_skips p.store.schema (own_rows p.store.schema p.store.world share.number (opened_by share.list)) (p.number ∷ [])
      (tries_as (Ok (ActedVerdict SkippedAnswer)) is).2
  never_else (ActedVerdict (HeldAnswer holder)) is other = other
  never_else (ClashVerdict clash) is other =
      let found = (tries_as (Ok (ClashVerdict clash)) is).1 in
      never_clashes p.store.schema (own_rows p.store.schema p.store.world share.number (opened_by share.list)) (p.number ∷ []) found.0 found.2.1

  -- it is refused
  pub refused_as_tried : (fault : EngineFault) → answer ≡ Err fault → IsRefused p share q new
  refused_as_tried fault is =
      refused_then p share q new stood same_then own fault (tries_as (Err fault) is) (told_as (Err fault) is)
