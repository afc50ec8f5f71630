-- What follows of a rollback in the parts that are lent.
--     opened_with_event      what a transaction is with one more event
--     back_once, back_more      a share is rolled back to one mark, and to one more
--     marks_more      one place more is one mark more
--     same_share, kept_so_far      the shares are those of their parts
--     Drops, drops_are, rolled_by      the marks that a rollback drops; what a part is in every world behind a rollback to each of them
--     back_world, stood_there, has_back      its own world behind rollbacks to marks; a world that has it so
--     same_rolled, end_rolled      the part is the same one; where its log goes on
--     ticket_back, shares_back      the ticket
use Rattle.std.specs.Prelude.{◌≡◌, ◌≢◌, ◌⊎◌, ℕ, ◌+◌, ◌<◌, ◌==◌, Bool, true, false, List, [], ◌∷◌, ◌++◌, Option, Some, None, map, take, fold, length, if◌then◌else◌, refl}
use Rattle.std.proofs.Common.{sym, ◌∙◌, ap, subst, inl, inr, append_assoc, ⊎_elim, get_or}
use Rattle.std.proofs.lemmas.Bool.{cases_Bool}
use Rattle.std.proofs.lemmas.Grind.{fold-append, take_at_read}
use Rattle.std.proofs.lemmas.List.{map-append}
use Rattle.std.specs.FinMap.{get, insert}
use Rattle.model.specs.declared.change.Change.{Change}
use Rattle.model.specs.declared.item.Item.{Item}
use Rattle.model.specs.declared.item.Item.TheVariants.{BackTo}
use Rattle.model.specs.Survivors.{survivors, before_savepoint, changes_of}
use Rattle.model.specs.SurvivorLemmas.{survivors_with, cut_before, changes_of_both}
use Rattle.model.specs.TakenLemmas.{number_is as same_xid}
use Rattle.world.specs.World.{Opened, World, OpenOnes}
use Rattle.world.specs.Steps.{GoesBack, done_with}
use Rattle.world.specs.ListingLemmas.{xid_cases, got_same, got_other, same_by_xid}
use Rattle.savepoint.specs.Savepoints.{before_mark, subs_of}
use Rattle.tokens.specs.Half.{Name}
use Rattle.engine.specs.declared.events.Event.{Event}
use Rattle.engine.specs.declared.events.Event.TheVariants.{Done}
use Rattle.engine.specs.Engine.{IsOtherwiseSame}
use Rattle.engine.specs.Events.{after_event, opened_by}
use Rattle.world_parts.specs.ByTable.{changes_at}
use Rattle.world_parts.specs.ByTableLemmas.{changes_both}
use Rattle.world_parts.specs.Lines.{HasLine}
use Rattle.world_parts.specs.Parts.{wanted_by}
use Rattle.world_parts.specs.Marks.{HasPart, AreDropped}
use Rattle.world_parts.specs.MarkLemmas.{cuts_nothing}
use Rattle.world_parts.specs.ToldLemmas.{back_beside, back_each_told, back_nothing_told}
use Rattle.table_parts.specs.Part.{Part, last_commit_end}
use Rattle.parted_store.specs.Back.{backs_to, IsBackAt, BacksShare, IsSameShare, KeepsShares}
use Rattle.parted_store.specs.EndLemmas.{no_wants_here, same_part}
use Rattle.parted_store.specs.Lent.{OpenTicket, HasTable, HasTicket, IsSamePart, IsShare, HasShares}
use Rattle.parted_store.specs.PlaceLemmas.{none_dropped, dropped_are}
use Rattle.parted_store.specs.Shares.{Share, Shares, share_of}
use Rattle.parted_store.specs.Ticket.{Places, places_of}

-- ---- one mark after another

pub opened_with_event : (events : List Event) (event : Event) → opened_by (events ++ event ∷ []) ≡ after_event (opened_by events) event
opened_with_event events event = fold-append after_event (record { items = []; wants = None }) events (event ∷ [])

module _ (p : Part) (share : Share) where
  pub back_once : (mark : ℕ) (q : Part) (new : Share) → get p.store.world.opened share.number ≡ Some (opened_by share.list)
      → GoesBack p.store.world share.number (opened_by share.list) mark q.store.world
      → new ≡ record share { list = share.list ++ Done (BackTo mark) ∷ [] }
      → q.number ≡ p.number → IsOtherwiseSame p.store q.store → last_commit_end q ≡ last_commit_end p → IsBackAt p share (mark ∷ []) q new
  back_once mark q new stood goes told number store ends = record {
    stood = stood;
    world =
        goes
        ∙ ap (λ (o : Opened). record p.store.world { opened = insert p.store.world.opened share.number o })
        (sym (opened_with_event share.list (Done (BackTo mark))));
    share_is = told;
    same = record { number = number; store = store };
    ends = ends;
  }

-- put in once more at the same number
pub inserted_again : (ones : OpenOnes) (xid : ℕ) (o p : Opened) → insert (insert ones xid o) xid p ≡ insert ones xid p
inserted_again ones xid o p =
    same_by_xid (insert (insert ones xid o) xid p) (insert ones xid p) (λ q.
    elim (xid_cases q xid) [
      | inl here ↦
          ap (get (insert (insert ones xid o) xid p)) here ∙ got_same (insert ones xid o) xid p
          ∙ sym (ap (get (insert ones xid p)) here ∙ got_same ones xid p)
      | inr apart ↦
          got_other (insert ones xid o) xid p q apart ∙ got_other ones xid o q apart ∙ sym (got_other ones xid p q apart)
    ])

module _ (p : Part) (share : Share) (marks : List ℕ) (q : Part) (between : Share) (so_far : IsBackAt p share marks q between) where
  list_is : between.list ≡ share.list ++ backs_to marks
  list_is = ap (λ (s : Share). s.list) so_far.share_is

  number_is : between.number ≡ share.number
  number_is = ap (λ (s : Share). s.number) so_far.share_is

  pub still_named : (name : Name) → share.name ≡ name → between.name ≡ name
  still_named name is = ap (λ (s : Share). s.name) so_far.share_is ∙ is

  module _ (mark : ℕ) (r : Part) (new : Share) (told : new ≡ record between { list = between.list ++ Done (BackTo mark) ∷ [] }) where
    lists : between.list ++ Done (BackTo mark) ∷ [] ≡ share.list ++ backs_to (marks ++ mark ∷ [])
    lists =
        ap (λ (events : List Event). events ++ Done (BackTo mark) ∷ []) list_is
        ∙ append_assoc share.list (backs_to marks) (Done (BackTo mark) ∷ [])
        ∙ ap (λ (events : List Event). share.list ++ events) (sym (map-append (λ (m : ℕ). Done (BackTo m)) marks (mark ∷ [])))

    worlds : GoesBack q.store.world between.number (opened_by between.list) mark r.store.world
        → r.store.world ≡ record p.store.world { opened = insert p.store.world.opened share.number (opened_by (share.list ++ backs_to (marks ++ mark ∷ []))) }
    worlds goes =
        goes
        ∙ ap (λ (o : Opened). record q.store.world { opened = insert q.store.world.opened between.number o })
        (sym (opened_with_event between.list (Done (BackTo mark))) ∙ ap opened_by lists)
        ∙ ap (λ (v : World). record v { opened = insert v.opened between.number (opened_by (share.list ++ backs_to (marks ++ mark ∷ []))) }) so_far.world
        ∙ ap (λ (n : ℕ). record p.store.world { opened = insert (insert p.store.world.opened share.number (opened_by (share.list ++ backs_to marks))) n (opened_by (share.list ++ backs_to (marks ++ mark ∷ []))) })
        number_is
        ∙ ap (λ (ones : OpenOnes). record p.store.world { opened = ones })
        (inserted_again p.store.world.opened share.number (opened_by (share.list ++ backs_to marks)) (opened_by (share.list ++ backs_to (marks ++ mark ∷ []))))

    pub back_more : GoesBack q.store.world between.number (opened_by between.list) mark r.store.world
        → r.number ≡ q.number → IsOtherwiseSame q.store r.store → last_commit_end r ≡ last_commit_end q
        → IsBackAt p share (marks ++ mark ∷ []) r new
    back_more goes number store ends = record {
      stood = so_far.stood;
      world = worlds goes;
      share_is =
          told ∙ ap (λ (events : List Event). record between { list = events }) lists
          ∙ ap (λ (s : Share). record s { list = share.list ++ backs_to (marks ++ mark ∷ []) }) so_far.share_is;
      same = record {
        number = number ∙ so_far.same.number;
        store = record {
          schema = store.schema ∙ so_far.same.store.schema;
          tickets = store.tickets ∙ so_far.same.store.tickets;
          line = store.line ∙ so_far.same.store.line;
        };
      };
      ends = ends ∙ so_far.ends;
    }

-- one place more is one mark more
pub marks_more : (dropped : Places) (i : ℕ) (d : ℕ × ℕ) → i < length dropped
    → subs_of (take (i + 1) dropped) ≡ subs_of (take i dropped) ++ (get_or dropped i d).0 ∷ []
marks_more dropped i d within =
    ap subs_of (take_at_read dropped i d within).1
    ∙ map-append (λ (place : ℕ × ℕ). place.0) (take i dropped) (get_or dropped i d ∷ [])

-- ---- the shares

unchanged : (share : Option Share) → IsSameShare share share
unchanged None = refl
unchanged (Some share) = (refl, refl)

same_twice : (share between new : Option Share) → IsSameShare share between → IsSameShare between new → IsSameShare share new
same_twice None between new first next = subst (λ s. IsSameShare s new) first next
same_twice (Some share) None new first next = absurd first
same_twice (Some share) (Some between) None first next = absurd next
same_twice (Some share) (Some between) (Some new) first next = (next.0 ∙ first.0, next.1 ∙ first.1)

same_back : (marks : List ℕ) (p : Part) (share : Option Share) (q : Part) (new : Option Share) → BacksShare marks p share q new → IsSameShare share new
same_back marks p None q new did = did.1
same_back marks p (Some share) q None did = absurd did
same_back marks p (Some share) q (Some new) did = (ap (λ (s : Share). s.name) did.share_is, ap (λ (s : Share). s.number) did.share_is)

pub all_kept : (shares : Shares) → KeepsShares shares shares
all_kept shares table = unchanged (share_of shares table)

pub kept_so_far : (all shares new : Shares) → KeepsShares all shares → (marks : List ℕ) (p q : Part)
    → BacksShare marks p (share_of shares p.number) q (share_of new p.number)
    → ((other : ℕ) → other ≢ p.number → share_of new other ≡ share_of shares other) → KeepsShares all new
kept_so_far all shares new kept marks p q did others table =
    elim (xid_cases table p.number) [
      | inl here ↦
          subst (λ n. IsSameShare (share_of all n) (share_of new n)) (sym here)
          (same_twice (share_of all p.number) (share_of shares p.number) (share_of new p.number) (kept p.number)
          (same_back marks p (share_of shares p.number) q (share_of new p.number) did))
      | inr apart ↦ subst (IsSameShare (share_of all table)) (sym (others table apart)) (kept table)
    ]

-- ---- in every world

opened_backs : (o : Opened) (mark : ℕ) (marks : List ℕ)
    → fold after_event o (backs_to (mark ∷ marks)) ≡ record { items = o.items ++ map BackTo (mark ∷ marks); wants = None }
opened_backs o mark [] = refl
opened_backs o mark (next ∷ marks) =
    opened_backs (after_event o (Done (BackTo mark))) next marks
    ∙ ap (λ (items : List Item). record { items = items; wants = None }) (append_assoc o.items (BackTo mark ∷ []) (map BackTo (next ∷ marks)))

opened_behind : (events : List Event) (mark : ℕ) (marks : List ℕ)
    → opened_by (events ++ backs_to (mark ∷ marks)) ≡ record { items = (opened_by events).items ++ map BackTo (mark ∷ marks); wants = None }
opened_behind events mark marks =
    fold-append after_event (record { items = []; wants = None }) events (backs_to (mark ∷ marks)) ∙ opened_backs (opened_by events) mark marks

-- the part's world behind rollbacks to these marks
abbrev pub back_world : Part → ℕ → Share → ℕ → List ℕ → World
back_world p xid share mark marks =
    record p.store.world { opened = insert p.store.world.opened xid (record { items = (opened_by share.list).items ++ map BackTo (mark ∷ marks); wants = None }) }

module _ (p : Part) (xid : ℕ) (share : Share) (number : share.number ≡ xid) (mark : ℕ) (marks : List ℕ) (q : Part) (new : Share)
    (is : IsBackAt p share (mark ∷ marks) q new) where
  pub stood_there : get p.store.world.opened xid ≡ Some (opened_by share.list)
  stood_there = subst (λ (n : ℕ). get p.store.world.opened n ≡ Some (opened_by share.list)) number is.stood

  world_is : q.store.world ≡ back_world p xid share mark marks
  world_is =
      is.world
      ∙ ap (λ (n : ℕ). record p.store.world { opened = insert p.store.world.opened n (opened_by (share.list ++ backs_to (mark ∷ marks))) }) number
      ∙ ap (λ (o : Opened). record p.store.world { opened = insert p.store.world.opened xid o }) (opened_behind share.list mark marks)

  -- a world that has it so, and the line that it had, has the part
  pub has_back : (now : World) → HasLine p.number now p.store.world
      → HasPart p.number now (back_world p xid share mark marks) → HasTable now q
  has_back now line has = record {
    is = subst (λ (n : ℕ). HasPart n now q.store.world) (sym is.same.number) (subst (HasPart p.number now) (sym world_is) has);
    line =
        subst (λ (n : ℕ). HasLine n now q.store.world) (sym is.same.number)
        (subst (HasLine p.number now) (sym world_is) (record { start = line.start; line = line.line }));
  }

-- a rollback drops none of these behind the subtransaction's own, where it is the top transaction; else just these
abbrev pub Drops : ℕ → ℕ → List Item → List ℕ → Type 0
Drops top sub items marks =
    (((sub == top) ≡ true) × (marks ≡ [])) ⊎ (((sub == top) ≡ false) × AreDropped top sub items (sub ∷ marks))

-- the marks from the subtransaction's on are those
pub drops_are : (top sub : ℕ) (items : List Item) (dropped : Places) → before_mark sub (places_of top items) ++ dropped ≡ places_of top items
    → Drops top sub items (subs_of dropped)
drops_are top sub items dropped all_are =
    elim (cases_Bool (sub == top)) [
      | inl is_top ↦
          inl (
            is_top,
            ap subs_of (none_dropped top items dropped
                (subst (λ s. before_mark s (places_of top items) ++ dropped ≡ places_of top items) (same_xid sub top is_top) all_are)),
          )
      | inr not_top ↦ inr (not_top, dropped_are top sub items not_top dropped all_are)
    ]

module _ (t : OpenTicket) (sub : ℕ) (marks : List ℕ) (drops : Drops t.number sub (survivors t.number (opened_by t.events).items) marks)
    (p : Part) (w : World) (has : HasTable w p) (at : HasTicket w t) where
  abbrev now : World
  now = done_with w t.number (opened_by t.events) (BackTo sub)

  -- it leaves start and commits
  line_now : HasLine p.number now p.store.world
  line_now = record { start = has.line.start; line = has.line.line }

  pub nothing_rolled : IsShare t.number (opened_by t.events) p.number None → HasTable now p
  nothing_rolled none = record {
    is =
        back_beside p.number w p.store.world has.is t.number (opened_by t.events) at sub
        (cuts_nothing p.number t.number sub (survivors t.number (opened_by t.events).items) none.0)
        (no_wants_here t p w has at none.1);
    line = line_now;
  }

  part_behind : (share : Share) → get p.store.world.opened t.number ≡ Some (opened_by share.list)
      → HasPart p.number now (back_world p t.number share sub marks)
  part_behind share here =
      ⊎_elim
      (λ (top : ((sub == t.number) ≡ true) × (marks ≡ [])).
      subst (λ (others : List ℕ). HasPart p.number now (back_world p t.number share sub others)) (sym top.1)
      (back_nothing_told p.number w p.store.world has.is t.number (opened_by t.events) (opened_by share.list) at here sub top.0))
      (λ (not : ((sub == t.number) ≡ false) × AreDropped t.number sub (survivors t.number (opened_by t.events).items) (sub ∷ marks)).
      back_each_told p.number w p.store.world has.is t.number (opened_by t.events) (opened_by share.list) at here sub (sub ∷ marks) not.0 not.1)
      drops

  pub rolled_by : (share : Option Share) → IsShare t.number (opened_by t.events) p.number share
      → (q : Part) (new : Option Share) → BacksShare (sub ∷ marks) p share q new → HasTable now q
  rolled_by None none q new did = subst (HasTable now) (sym did.0) (nothing_rolled none)
  rolled_by (Some share) number q None did = absurd did
  rolled_by (Some share) number q (Some new) did =
      has_back p t.number share number sub marks q new did now line_now (part_behind share (stood_there p t.number share number sub marks q new did))

-- ---- the part itself

module _ (marks : List ℕ) (p q : Part) where
  pub same_rolled : (share new : Option Share) → BacksShare marks p share q new → IsSamePart p q
  same_rolled None new did = same_part p q did.0
  same_rolled (Some share) None did = absurd did
  same_rolled (Some share) (Some new) did = did.same

  pub end_rolled : (share new : Option Share) → BacksShare marks p share q new → last_commit_end q ≡ last_commit_end p
  end_rolled None new did = ap last_commit_end did.0
  end_rolled (Some share) None did = absurd did
  end_rolled (Some share) (Some new) did = did.ends

-- ---- the ticket

module _ (t : OpenTicket) (sub : ℕ) where
  -- the world behind it has the ticket
  pub ticket_back : (w : World) → HasTicket w t
      → get (done_with w t.number (opened_by t.events) (BackTo sub)).opened t.number ≡ Some (opened_by (t.events ++ Done (BackTo sub) ∷ []))
  ticket_back w at = got_same w.opened t.number _ ∙ ap Some (sym (opened_with_event t.events (Done (BackTo sub))))

  -- the items that survive it
  pub items_back : survivors t.number (opened_by (t.events ++ Done (BackTo sub) ∷ [])).items
      ≡ (if sub == t.number then survivors t.number (opened_by t.events).items else before_savepoint sub (survivors t.number (opened_by t.events).items))
  items_back =
      ap (λ (o : Opened). survivors t.number o.items) (opened_with_event t.events (Done (BackTo sub)))
      ∙ survivors_with t.number (opened_by t.events).items (BackTo sub)

-- nothing done in a table is nothing before a savepoint
none_before : (table sub : ℕ) (items : List Item) → changes_at table (changes_of items) ≡ [] → changes_at table (changes_of (before_savepoint sub items)) ≡ []
none_before table sub items none =
    let cut = cut_before sub items in
    first_of (changes_at table (changes_of (before_savepoint sub items))) (changes_at table (changes_of cut.0))
    (sym (ap (λ (is : List Item). changes_at table (changes_of is)) cut.1.both
    ∙ ap (changes_at table) (changes_of_both (before_savepoint sub items) cut.0)
    ∙ changes_both table (changes_of (before_savepoint sub items)) (changes_of cut.0)) ∙ none)
  where
    first_of : (cs more : List Change) → cs ++ more ≡ [] → cs ≡ []
    first_of [] more e = refl
    first_of (c ∷ cs) more e = absurd (not_empty e)
      where
        not_empty : c ∷ (cs ++ more) ≡ [] → ⊥
        not_empty e = cc

module _ (t : OpenTicket) (sub : ℕ) where
  abbrev behind_it : Opened
  behind_it = opened_by (t.events ++ Done (BackTo sub) ∷ [])

  none_back : (table : ℕ) → IsShare t.number (opened_by t.events) table None → IsShare t.number behind_it table None
  none_back table none =
      let there : changes_at table (changes_of (survivors t.number behind_it.items)) ≡ [] =
      ap (λ (items : List Item). changes_at table (changes_of items)) (items_back t sub) ∙ by (sub == t.number) in
      (there, ap (λ (o : Opened). changes_at table (wanted_by o.wants)) (opened_with_event t.events (Done (BackTo sub))))
    where
      by : (b : Bool) → changes_at table (changes_of (if b then survivors t.number (opened_by t.events).items else before_savepoint sub (survivors t.number (opened_by t.events).items))) ≡ []
      by true = none.0
      by false = none_before table sub (survivors t.number (opened_by t.events).items) none.0

  share_back : (table : ℕ) (share new : Option Share) → IsSameShare share new → IsShare t.number (opened_by t.events) table share
      → IsShare t.number behind_it table new
  share_back table None new same none = subst (IsShare t.number behind_it table) (sym same) (none_back table none)
  share_back table (Some share) None same number = absurd same
  share_back table (Some share) (Some new) same number = same.1 ∙ number

  -- it has the shares that it needs
  pub shares_back : (new : Shares) → HasShares t → KeepsShares t.shares new → (table : ℕ) → IsShare t.number behind_it table (share_of new table)
  shares_back new has kept table = share_back table (share_of t.shares table) (share_of new table) (kept table) (has table)
