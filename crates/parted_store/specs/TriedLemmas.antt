-- What follows of the states of parts in which a truncate is tried.
--     popped      the last is taken from those that are left of a list
--     at_number, tried_here      a state by the part's own number; what was attempted at a place
--     attempted_belongs      the share of a part that attempted it is one of the part
--     undone, kept      it is undone, or kept
--     last_part, last_tried, last_belongs, goes_down      the last part that attempted it, and what it is then
--     none_left, kept_none      no attempt is left; all are
--     next_part, next_share, next_belongs, stops_here, goes_up      the part that is next; it ends there; it was attempted
--     stand_behind      whatever is behind the border stands
--     all_stand      nothing was tried
--     refused_stands, refused_same, waiting_stands, waiting_same, waiting_held, attempted_same      what came of an attempt
use Rattle.std.specs.Prelude.{◌≡◌, ◌≢◌, ℕ, ◌+◌, Bool, true, false, List, [], ◌∷◌, ◌++◌, Option, Some, None, IsSomeAnd, Result, Ok, Err, OnErr, length, take, slice_get, slice_set, refl}
use Rattle.std.proofs.Common.{sym, ◌∙◌, ap, subst, arith, inl, inr, length-append}
use Rattle.std.proofs.lemmas.List.{take-append-le}
use Rattle.std.proofs.lemmas.Option.{same_Some, slice_get_within}
use Rattle.std.proofs.Math.Seq.{take-length}
use Rattle.std.proofs.lemmas.Bool.{false≢true}
use Rattle.std.specs.FinMap.{insert}
use Rattle.model.specs.Survivors.{survivors}
use Rattle.savepoint.proofs.Indexed.{take-take}
use Rattle.live_tables.specs.BeforeImageLemmas.{slice_front, slice_longer, slice_next}
use Rattle.world.specs.World.{Opened}
use Rattle.engine.specs.declared.events.Event.TheVariants.{Wants}
use Rattle.engine.specs.Events.{opened_by}
use Rattle.engine.specs.EventLemmas.{opened_more}
use Rattle.table_parts.specs.Part.{Part}
use Rattle.table_parts.specs.declared.several.Attempt.{Attempt}
use Rattle.table_parts.specs.Several.{IsSameAs, IsAttempted, IsKept, IsLeft, IsRefused, IsWaiting}
use Rattle.parted_store.specs.EachPart.{AreApart, BelongEach}
use Rattle.parted_store.specs.Lent.{Belongs}
use Rattle.parted_store.specs.Shares.{Share, Shares, share_of}
use Rattle.parted_store.specs.Truncating.{Both, EachIs, Zones, Untouched, Attempts, Stands, IsStill, Keeps, IsHeldInOne, cut_of}
use Rattle.parted_store.specs.TruncatingLemmas.{the_part, its_state, one_changes, zone_down, zone_up, each_as, nothing_yet}

pub on_err : {T E : Type 0} (r : Result T E) (P : Type 0) → P → OnErr r P
on_err (Ok x) P h = tt
on_err (Err e) P h = h

-- the last is taken from those that are left of a list
pub popped : {A : Type 0} (all now left : List A) (a : A) → now ≡ left ++ a ∷ [] → now ≡ take (length now) all
    → (slice_get all (length left) ≡ Some a) × (left ≡ take (length left) all) × (length now ≡ length left + 1)
popped {A = A} all now left a split front = (
  (slice_front (length now) all (length left) a (sym (ap (λ (those : List A). slice_get those (length left)) (sym split ∙ front)) ∙ slice_next left a)).1,
  sym (take-append-le (length left) left (a ∷ []) (omega arith) ∙ take-length left) ∙ ap (take (length left)) (sym split ∙ front) ∙ take-take (length left) (length now) all (omega (arith, long)),
  long,
)
  where
    long : length now ≡ length left + 1
    long = ap length split ∙ length-append left (a ∷ [])

module _ (mark : ℕ) (p q : Part) (same : IsSameAs p q) (tried : List Attempt) (n : ℕ) (a : Attempt) (at : slice_get tried n ≡ Some a) (all shares : Shares)
    (is : Attempts mark tried n p (share_of all p.number) q (share_of shares p.number)) where
  -- what the part attempted is what is told at its place
  its_own : is.0 ≡ a
  its_own = same_Some is.0 a (sym is.1 ∙ at)

  both : Both (λ s t. IsAttempted p s mark (cut_of p) a q t) (share_of all p.number) (share_of shares p.number)
  both = subst (λ (b : Attempt). Both (λ s t. IsAttempted p s mark (cut_of p) b q t) (share_of all p.number) (share_of shares p.number)) its_own is.2

  by_share : (share now : Option Share) → Both (λ s t. IsAttempted p s mark (cut_of p) a q t) share now
      → (s : Share) × (share ≡ Some s) × IsSomeAnd now (λ t. IsAttempted p s mark (cut_of p) a q t)
  by_share None now none = absurd none
  by_share (Some s) None none = absurd none
  by_share (Some s) (Some t) had = (s, refl, had)

  pub tried_here : (s : Share) × (share_of all p.number ≡ Some s) × IsSomeAnd (share_of shares q.number) (λ t. IsAttempted p s mark (cut_of p) a q t)
  tried_here =
      let found = by_share (share_of all p.number) (share_of shares p.number) both in
      (found.0, found.1, subst (λ (k : ℕ). IsSomeAnd (share_of shares k) (λ t. IsAttempted p found.0 mark (cut_of p) a q t)) (sym same.number) found.2)

  pub attempted_belongs : (i : ℕ) (start : List Part) → slice_get start i ≡ Some p → BelongEach start all → Belongs q shares
  attempted_belongs i start there belong share found =
      let its = tried_here in
      let here : IsAttempted p its.0 mark (cut_of p) a q share = subst (λ (f : Option Share). IsSomeAnd f (λ t. IsAttempted p its.0 mark (cut_of p) a q t)) found its.2 in
      ap (λ (s : Share). s.name) here.share_is ∙ belong i p there its.0 its.1 ∙ sym same.store.tickets

  -- it is undone
  pub undone : (waits : Bool) (r : Part) (new : Shares) (still : IsSameAs q r)
      → ((s : Share) → IsSomeAnd (share_of shares q.number) (λ t. IsAttempted p s mark (cut_of p) a q t) → IsSomeAnd (share_of new q.number) (λ t. IsLeft p s r t))
      → Stands waits n p (share_of all p.number) r (share_of new p.number)
  undone waits r new still comes =
      let its = tried_here in
      inr (subst (λ (f : Option Share). Both (λ s t. IsStill waits p s r t) f (share_of new p.number)) (sym its.1)
      (subst (λ (k : ℕ). Both (λ s t. IsStill waits p s r t) (Some its.0) (share_of new k)) same.number
      (by_new (share_of new q.number) (comes its.0 its.2))))
    where
      by_new : (found : Option Share) → IsSomeAnd found (λ t. IsLeft p tried_here.0 r t) → Both (λ s t. IsStill waits p s r t) (Some tried_here.0) found
      by_new None none = none
      by_new (Some t) left = record {
        stood = left.stood;
        world = left.world;
        items = left.items;
        wants = λ w. left.wants;
        name = left.name;
        number = left.number;
        same = left.same;
      }

  -- it is kept
  pub kept : (r : Part) (new : Shares) (still : IsSameAs q r)
      → ((s : Share) → IsSomeAnd (share_of shares q.number) (λ t. IsAttempted p s mark (cut_of p) a q t) → IsSomeAnd (share_of new q.number) (λ t. IsKept p s mark (cut_of p) r t))
      → Keeps mark n p (share_of all p.number) r (share_of new p.number)
  kept r new still comes =
      let its = tried_here in
      subst (λ (f : Option Share). Both (λ s t. IsKept p s mark (cut_of p) r t) f (share_of new p.number)) (sym its.1)
      (subst (λ (k : ℕ). Both (λ s t. IsKept p s mark (cut_of p) r t) (Some its.0) (share_of new k)) same.number
      (by_new (share_of new q.number) (comes its.0 its.2)))
    where
      by_new : (found : Option Share) → IsSomeAnd found (λ t. IsKept p tried_here.0 mark (cut_of p) r t) → Both (λ s t. IsKept p s mark (cut_of p) r t) (Some tried_here.0) found
      by_new None none = none
      by_new (Some t) is_kept = is_kept

-- ---- the last of the parts that attempted it

module _ (mark : ℕ) (Others : ℕ → Part → Option Share → Part → Option Share → Type 0) (start : List Part) (all : Shares) (parts : List Part) (shares : Shares)
    (tried now left : List Attempt) (a : Attempt) (split : now ≡ left ++ a ∷ []) (front : now ≡ take (length now) tried)
    (were : EachIs (Zones (length now) (Attempts mark tried) Others) start all parts shares) (n : ℕ) (count : n ≡ length left) (q : Part) (at : slice_get parts n ≡ Some q) where
  abbrev Border : ℕ → Part → Option Share → Part → Option Share → Type 0
  Border = Zones (n + 1) (Attempts mark tried) Others

  were_here : EachIs Border start all parts shares
  were_here =
      subst (λ (k : ℕ). EachIs (Zones k (Attempts mark tried) Others) start all parts shares) ((popped tried now left a split front).2 ∙ ap (λ (k : ℕ). k + 1) (sym count)) were

  told_here : slice_get tried n ≡ Some a
  told_here = ap (slice_get tried) count ∙ (popped tried now left a split front).0

  pub last_part : (p : Part) × (slice_get start n ≡ Some p)
  last_part = the_part Border start all parts shares were_here n q at

  same_here : (p : Part) → slice_get start n ≡ Some p → IsSameAs p q
  same_here p there = (its_state Border start all parts shares were_here n q at p there).1

  attempts_here : (p : Part) → slice_get start n ≡ Some p → Attempts mark tried n p (share_of all p.number) q (share_of shares p.number)
  attempts_here p there =
      elim (its_state Border start all parts shares were_here n q at p there).0 [
        | inl before ↦ before.1
        | inr behind ↦ absurd (omega (arith, behind.0))
      ]

  pub last_tried : (s : Share) × (share_of all last_part.0.number ≡ Some s) × IsSomeAnd (share_of shares q.number) (λ t. IsAttempted last_part.0 s mark (cut_of last_part.0) a q t)
  last_tried =
      tried_here mark last_part.0 q (same_here last_part.0 last_part.1) tried n a told_here all shares (attempts_here last_part.0 last_part.1)

  pub last_belongs : BelongEach start all → Belongs q shares
  last_belongs belong =
      attempted_belongs mark last_part.0 q (same_here last_part.0 last_part.1) tried n a told_here all shares (attempts_here last_part.0 last_part.1) n start last_part.1 belong

  pub goes_down : AreApart start → (r : Part) (new : Shares) → IsSameAs q r → ((other : ℕ) → other ≢ q.number → share_of new other ≡ share_of shares other)
      → ((p : Part) → IsSameAs p q → Attempts mark tried n p (share_of all p.number) q (share_of shares p.number) → slice_get tried n ≡ Some a
      → Others n p (share_of all p.number) r (share_of new p.number))
      → EachIs (Zones (length left) (Attempts mark tried) Others) start all (slice_set parts n r) new
  goes_down apart r new still kept_others comes =
      subst (λ (k : ℕ). EachIs (Zones k (Attempts mark tried) Others) start all (slice_set parts n r) new) count
      (zone_down (Attempts mark tried) Others start all apart parts shares n q at r new still kept_others were_here (λ p there is. comes p (same_here p there) is told_here))

-- no attempt is left
pub none_left : (mark : ℕ) (Others : ℕ → Part → Option Share → Part → Option Share → Type 0) (start : List Part) (all : Shares) (parts : List Part) (shares : Shares)
    (tried now : List Attempt) → length now ≡ 0 → EachIs (Zones (length now) (Attempts mark tried) Others) start all parts shares → EachIs Others start all parts shares
none_left mark Others start all parts shares tried now none were =
    each_as (Zones (length now) (Attempts mark tried) Others) Others start all parts shares were
    (λ j p u there is. elim is [
      | inl before ↦ absurd (omega (arith, before.0, none))
      | inr behind ↦ behind.1
    ])

-- where all attempted it, none has kept it yet
pub kept_none : (mark : ℕ) (start : List Part) (all : Shares) (parts : List Part) (shares : Shares) (tried : List Attempt) → length tried ≡ length start
    → EachIs (Zones (length tried) (Attempts mark tried) (Stands false)) start all parts shares → EachIs (Zones (length tried) (Attempts mark tried) (Keeps mark)) start all parts shares
kept_none mark start all parts shares tried long were =
    each_as (Zones (length tried) (Attempts mark tried) (Stands false)) (Zones (length tried) (Attempts mark tried) (Keeps mark)) start all parts shares were
    (λ j p u there is. elim is [
      | inl before ↦ inl before
      | inr behind ↦ absurd (let within = slice_get_within start j p there in omega (arith, behind.0, within, long))
    ])

-- ---- the part that is next

module _ (mark : ℕ) (start : List Part) (all : Shares) (apart : AreApart start) (parts : List Part) (shares : Shares) (tried : List Attempt) (i : ℕ)
    (were : EachIs (Zones i (Attempts mark tried) Untouched) start all parts shares) (q : Part) (at : slice_get parts i ≡ Some q) where
  its_part : (p : Part) × (slice_get start i ≡ Some p)
  its_part = the_part (Zones i (Attempts mark tried) Untouched) start all parts shares were i q at

  untouched : Untouched i its_part.0 (share_of all its_part.0.number) q (share_of shares its_part.0.number)
  untouched =
      elim (its_state (Zones i (Attempts mark tried) Untouched) start all parts shares were i q at its_part.0 its_part.1).0 [
        | inl before ↦ absurd (omega (arith, before.0))
        | inr behind ↦ behind.1
      ]

  -- it is what it was, and so is its share
  pub next_part : slice_get start i ≡ Some q
  next_part = its_part.1 ∙ ap Some (sym untouched.0)

  pub next_share : share_of shares q.number ≡ share_of all q.number
  next_share = ap (λ (p : Part). share_of shares p.number) untouched.0 ∙ untouched.1 ∙ ap (λ (p : Part). share_of all p.number) (sym untouched.0)

  pub next_belongs : BelongEach start all → Belongs q shares
  next_belongs belong share found = belong i q next_part share (sym next_share ∙ found)

  -- the part that is there is this one
  is_next : (p : Part) → slice_get start i ≡ Some p → q ≡ p
  is_next p there = same_Some q p (sym next_part ∙ there)

  -- nothing is tried from here on
  pub stops_here : (waits : Bool) (r : Part) (new : Shares) → IsSameAs q r → ((other : ℕ) → other ≢ q.number → share_of new other ≡ share_of shares other)
      → Both (λ s t. IsStill waits q s r t) (share_of shares q.number) (share_of new q.number)
      → EachIs (Zones i (Attempts mark tried) (Stands waits)) start all (slice_set parts i r) new
  stops_here waits r new still kept_others stands =
      one_changes (Zones i (Attempts mark tried) Untouched) start all parts shares were i q at (Zones i (Attempts mark tried) (Stands waits)) apart r new
      (λ j p share u then_share differs is. elim is [
        | inl before ↦ inl before
        | inr behind ↦ inr (behind.0, inl behind.1)
      ])
      (λ p there is.
      inr (
        omega arith,
        inr (subst (λ (v : Part). Both (λ s t. IsStill waits v s r t) (share_of all v.number) (share_of new v.number)) (is_next p there)
            (subst (λ (f : Option Share). Both (λ s t. IsStill waits q s r t) f (share_of new q.number)) next_share stands)),
      ))
      still kept_others

  -- it was attempted, as is told behind the others
  pub goes_up : (a : Attempt) → length tried ≡ i → (r : Part) (new : Shares) → IsSameAs q r → ((other : ℕ) → other ≢ q.number → share_of new other ≡ share_of shares other)
      → Both (λ s t. IsAttempted q s mark (cut_of q) a r t) (share_of shares q.number) (share_of new q.number)
      → EachIs (Zones (i + 1) (Attempts mark (tried ++ a ∷ [])) Untouched) start all (slice_set parts i r) new
  goes_up a long r new still kept_others done =
      zone_up (Attempts mark tried) Untouched start all apart parts shares i q at r new still kept_others (Attempts mark (tried ++ a ∷ [])) were
      (λ j p share u then_share below is. (is.0, slice_longer tried (a ∷ []) j is.0 is.1, is.2))
      (λ p there is. (
        a,
        ap (slice_get (tried ++ a ∷ [])) (sym long) ∙ slice_next tried a,
        subst (λ (v : Part). Both (λ s t. IsAttempted v s mark (cut_of v) a r t) (share_of all v.number) (share_of new v.number)) (is_next p there)
            (subst (λ (f : Option Share). Both (λ s t. IsAttempted q s mark (cut_of q) a r t) f (share_of new q.number)) next_share done),
      ))

-- whatever is behind the border stands
pub stand_behind : (mark : ℕ) (start : List Part) (all : Shares) (parts : List Part) (shares : Shares) (tried : List Attempt) (i : ℕ) (waits : Bool)
    → EachIs (Zones i (Attempts mark tried) Untouched) start all parts shares → EachIs (Zones i (Attempts mark tried) (Stands waits)) start all parts shares
stand_behind mark start all parts shares tried i waits were =
    each_as (Zones i (Attempts mark tried) Untouched) (Zones i (Attempts mark tried) (Stands waits)) start all parts shares were
    (λ j p u there is. elim is [
      | inl before ↦ inl before
      | inr behind ↦ inr (behind.0, inl behind.1)
    ])

-- what a refusal and a holder leave
pub refused_stands : (q r : Part) (share new : Option Share) → Both (λ s t. IsRefused q s r t) share new → Both (λ s t. IsStill true q s r t) share new
refused_stands q r None new none = none
refused_stands q r (Some s) None none = none
refused_stands q r (Some s) (Some t) refused = record {
  stood = refused.left.stood;
  world = refused.left.world;
  items = refused.left.items;
  wants = λ w. refused.left.wants;
  name = refused.left.name;
  number = refused.left.number;
  same = refused.left.same;
}

pub refused_same : (q r : Part) (share new : Option Share) → Both (λ s t. IsRefused q s r t) share new → IsSameAs q r
refused_same q r None new none = absurd none
refused_same q r (Some s) None none = absurd none
refused_same q r (Some s) (Some t) refused = refused.left.same

module _ (q r : Part) (holder : ℕ) where
  pub waiting_stands : (share new : Option Share) → Both (λ s t. IsWaiting q s holder r t) share new → Both (λ s t. IsStill false q s r t) share new
  waiting_stands None new none = none
  waiting_stands (Some s) None none = none
  waiting_stands (Some s) (Some t) waiting =
      let tells : opened_by t.list ≡ record (opened_by s.list) { wants = Some (waiting.own, cut_of q) } =
      ap (λ (u : Share). opened_by u.list) waiting.share_is ∙ opened_more s.list (Wants waiting.own (cut_of q)) in
      record {
        stood = waiting.stood;
        world = waiting.acts.2 ∙ ap (λ (o : Opened). record q.store.world { opened = insert q.store.world.opened s.number o }) (sym tells);
        items = ap (λ (o : Opened). survivors s.number o.items) tells;
        wants = λ w. absurd (false≢true w);
        name = ap (λ (u : Share). u.name) waiting.share_is;
        number = ap (λ (u : Share). u.number) waiting.share_is;
        same = waiting.same;
      }

  pub waiting_same : (share new : Option Share) → Both (λ s t. IsWaiting q s holder r t) share new → IsSameAs q r
  waiting_same None new none = absurd none
  waiting_same (Some s) None none = absurd none
  waiting_same (Some s) (Some t) waiting = waiting.same

  -- so another transaction is in the way
  pub waiting_held : (start : List Part) (all : Shares) (i : ℕ) → slice_get start i ≡ Some q → (share new : Option Share) → share_of all q.number ≡ share
      → Both (λ s t. IsWaiting q s holder r t) share new → IsHeldInOne start all holder
  waiting_held start all i there None new at none = absurd none
  waiting_held start all i there (Some s) None at none = absurd none
  waiting_held start all i there (Some s) (Some t) at waiting = (i, q, s, there, at, waiting.acts.0, waiting.acts.1)

pub attempted_same : (mark : ℕ) (q r : Part) (a : Attempt) (share new : Option Share) → Both (λ s t. IsAttempted q s mark (cut_of q) a r t) share new → IsSameAs q r
attempted_same mark q r a None new none = absurd none
attempted_same mark q r a (Some s) None none = absurd none
attempted_same mark q r a (Some s) (Some t) done = done.same

-- where nothing was tried, each part stands
pub all_stand : (waits : Bool) (start : List Part) (all : Shares) → EachIs (Stands waits) start all start all
all_stand waits start all =
    each_as Untouched (Stands waits) start all start all (nothing_yet start all) (λ j p u there is. inl is)
