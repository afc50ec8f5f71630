-- What follows where a transaction waits with a truncate in the part of each of its tables.
--     cut_there      what the truncate is in the part at a place
--     still_there, still_belongs, still_named      a part in which it has done what it had runs still, and has its share
--     waits_now      it waits there with the truncate
--     HasWaited, its_part, its_same, its_stands, its_cut, waits_down      the last of the parts where it doesn't wait yet
--     none_waits, all_wait      it waits nowhere yet; it waits everywhere
use Rattle.std.specs.Prelude.{◌≡◌, ◌≢◌, ◌⊎◌, ℕ, ◌+◌, ◌<◌, false, List, [], ◌∷◌, ◌++◌, Option, Some, None, IsSome, length, map, take, slice_get, slice_set, refl}
use Rattle.std.proofs.Common.{sym, ◌∙◌, ap, subst, arith, inl, inr}
use Rattle.std.proofs.lemmas.Bool.{false≢true}
use Rattle.std.proofs.lemmas.Option.{same_Some, slice_get-map, slice_get_within}
use Rattle.std.proofs.lemmas.List.{length-map}
use Rattle.std.proofs.lemmas.List.Elements.{All-nil, All-cons}
use Rattle.std.specs.Option.{option_map}
use Rattle.std.specs.FinMap.{get, insert}
use Rattle.model.specs.declared.change.Change.{Change}
use Rattle.model.specs.Named.{NamesTables}
use Rattle.model.specs.Rows.{Schema}
use Rattle.model.specs.Survivors.{survivors}
use Rattle.world.specs.World.{Opened, OpenOnes}
use Rattle.world.specs.Steps.{wanting}
use Rattle.world_parts.specs.Parts.{wanted_by}
use Rattle.engine.specs.declared.events.Event.TheVariants.{Wants}
use Rattle.engine.specs.Events.{opened_by}
use Rattle.engine.specs.EventLemmas.{opened_more}
use Rattle.table_parts.specs.Part.{Part}
use Rattle.table_parts.specs.Several.{IsSameAs}
use Rattle.parted_store.specs.BackLemmas.{inserted_again}
use Rattle.parted_store.specs.EachPart.{AreApart}
use Rattle.parted_store.specs.Lent.{Belongs}
use Rattle.parted_store.specs.Shares.{Share, Shares, share_of}
use Rattle.parted_store.specs.TriedLemmas.{popped}
use Rattle.parted_store.specs.Truncating.{Both, EachIs, Zones, Stands, IsStill, Waits, CanWait, CanWaitEach, cut_of}
use Rattle.parted_store.specs.TruncatingLemmas.{the_part, its_state, zone_down, each_as}

-- what the truncate is in the part at a place
pub cut_there : (start : List Part) (n : ℕ) (p : Part) (c : Change) → slice_get start n ≡ Some p → slice_get (map cut_of start) n ≡ Some c → c ≡ cut_of p
cut_there start n p c there at = same_Some c (cut_of p) (sym at ∙ slice_get-map cut_of start n ∙ ap (option_map cut_of) there)

module _ (p q : Part) (same : IsSameAs p q) (all shares : Shares) (n : ℕ) (is : Stands false n p (share_of all p.number) q (share_of shares p.number)) (can : CanWait all p) where
  -- its share at the start and now, and the part's world
  record Now : Type 0 where
    share : Share
    now : Share
    had : share_of all p.number ≡ Some share
    has : share_of shares q.number ≡ Some now
    stood : get q.store.world.opened now.number ≡ Some (opened_by now.list) → get p.store.world.opened share.number ≡ Some (opened_by share.list)
    world : (q.store.world ≡ p.store.world) ⊎ (q.store.world ≡ record p.store.world { opened = insert p.store.world.opened share.number (opened_by now.list) })
    items : survivors share.number (opened_by now.list).items ≡ survivors share.number (opened_by share.list).items
    name : now.name ≡ share.name
    number : now.number ≡ share.number

  by_share : (share now : Option Share) → share_of all p.number ≡ share → share_of shares p.number ≡ now → IsSome share → Stands false n p share q now → Now
  by_share None now at here some stands = absurd (false≢true some)
  by_share (Some s) now at here some (inl untouched) = record {
    share = s;
    now = s;
    had = at;
    has = ap (share_of shares) same.number ∙ here ∙ untouched.1;
    stood = λ e. subst (λ (v : Part). get v.store.world.opened s.number ≡ Some (opened_by s.list)) untouched.0 e;
    world = inl (ap (λ (v : Part). v.store.world) untouched.0);
    items = refl;
    name = refl;
    number = refl;
  }
  by_share (Some s) None at here some (inr none) = absurd none
  by_share (Some s) (Some t) at here some (inr still) = record {
    share = s;
    now = t;
    had = at;
    has = ap (share_of shares) same.number ∙ here;
    stood = λ e. still.stood;
    world = inr still.world;
    items = still.items;
    name = still.name;
    number = still.number;
  }

  today : Now
  today = by_share (share_of all p.number) (share_of shares p.number) refl refl can.share is

  pub still_there : IsSome (share_of shares q.number)
  still_there = subst (λ (f : Option Share). IsSome f) (sym today.has) refl

  pub still_belongs : Belongs p all → Belongs q shares
  still_belongs belongs share found =
      ap (λ (s : Share). s.name) (same_Some share today.now (sym found ∙ today.has)) ∙ today.name ∙ belongs today.share today.had ∙ sym same.store.tickets

  pub still_named : NamesTables (length q.store.schema) (cut_of p)
  still_named =
      subst (λ (s : Schema). NamesTables (length s) (cut_of p)) (sym same.store.schema)
      (All-cons (λ table. table < length p.store.schema) p.number [] can.known (All-nil (λ table. table < length p.store.schema)))

  -- it waits with the truncate
  pub waits_now : (mark : ℕ) (r : Part) (new : Shares) → IsSameAs q r
      → ((share : Share) → share_of shares q.number ≡ Some share
      → (get q.store.world.opened share.number ≡ Some (opened_by share.list))
      × (r.store.world ≡ wanting q.store.world share.number (opened_by share.list) mark (cut_of p))
      × (share_of new q.number ≡ Some (record share { list = share.list ++ Wants mark (cut_of p) ∷ [] })))
      → Waits n p (share_of all p.number) r (share_of new p.number)
  waits_now mark r new still waited =
      let came = waited today.now today.has in
      subst (λ (f : Option Share). Both (λ s t. IsStill false p s r t × (wanted_by (opened_by t.list).wants ≡ cut_of p ∷ [])) f (share_of new p.number)) (sym today.had)
      (subst (λ (f : Option Share). Both (λ s t. IsStill false p s r t × (wanted_by (opened_by t.list).wants ≡ cut_of p ∷ [])) (Some today.share) f)
      (sym (ap (share_of new) (sym same.number) ∙ came.2)) (
        record {
          stood = today.stood came.0;
          world = world_then came.1;
          items = ap (λ (o : Opened). survivors today.share.number o.items) tells ∙ today.items;
          wants = λ w. absurd (false≢true w);
          name = today.name;
          number = today.number;
          same = record {
            number = still.number ∙ same.number;
            store = record { schema = still.store.schema ∙ same.store.schema; tickets = still.store.tickets ∙ same.store.tickets; line = still.store.line ∙ same.store.line };
            ends = still.ends ∙ same.ends;
          };
        },
        ap (λ (o : Opened). wanted_by o.wants) tells,
      ))
    where
      tells : opened_by (today.now.list ++ Wants mark (cut_of p) ∷ []) ≡ record (opened_by today.now.list) { wants = Some (mark, cut_of p) }
      tells = opened_more today.now.list (Wants mark (cut_of p))

      world_then : r.store.world ≡ wanting q.store.world today.now.number (opened_by today.now.list) mark (cut_of p)
          → r.store.world ≡ record p.store.world { opened = insert p.store.world.opened today.share.number (opened_by (today.now.list ++ Wants mark (cut_of p) ∷ [])) }
      world_then comes =
          comes
          ∙ elim today.world [
            | inl e ↦ (λ i. wanting (e i) (today.number i) (opened_by today.now.list) mark (cut_of p))
            | inr e ↦
                (λ i. wanting (e i) (today.number i) (opened_by today.now.list) mark (cut_of p))
                ∙ ap (λ (ones : OpenOnes). record p.store.world { opened = ones }) (inserted_again p.store.world.opened today.share.number (opened_by today.now.list) (record (opened_by today.now.list) { wants = Some (mark, cut_of p) }))
          ]
          ∙ ap (λ (o : Opened). record p.store.world { opened = insert p.store.world.opened today.share.number o }) (sym tells)

-- the part and its share, once the transaction waits there with a change
abbrev pub HasWaited : ℕ → Change → Part → Shares → Part → Shares → Type 0
HasWaited mark c q shares r new =
    (share : Share) → share_of shares q.number ≡ Some share
    → (get q.store.world.opened share.number ≡ Some (opened_by share.list))
    × (r.store.world ≡ wanting q.store.world share.number (opened_by share.list) mark c)
    × (share_of new q.number ≡ Some (record share { list = share.list ++ Wants mark c ∷ [] }))

-- ---- the last of the parts that don't wait yet

module _ (start : List Part) (all : Shares) (parts : List Part) (shares : Shares) (cuts now left : List Change) (c : Change) (split : now ≡ left ++ c ∷ [])
    (front : now ≡ take (length now) cuts) (are : cuts ≡ map cut_of start) (were : EachIs (Zones (length now) (Stands false) Waits) start all parts shares)
    (n : ℕ) (count : n ≡ length left) (q : Part) (at : slice_get parts n ≡ Some q) where
  were_here : EachIs (Zones (n + 1) (Stands false) Waits) start all parts shares
  were_here =
      subst (λ (k : ℕ). EachIs (Zones k (Stands false) Waits) start all parts shares) ((popped cuts now left c split front).2 ∙ ap (λ (k : ℕ). k + 1) (sym count)) were

  pub its_part : (p : Part) × (slice_get start n ≡ Some p)
  its_part = the_part (Zones (n + 1) (Stands false) Waits) start all parts shares were_here n q at

  pub its_same : (p : Part) → slice_get start n ≡ Some p → IsSameAs p q
  its_same p there = (its_state (Zones (n + 1) (Stands false) Waits) start all parts shares were_here n q at p there).1

  pub its_stands : (p : Part) → slice_get start n ≡ Some p → Stands false n p (share_of all p.number) q (share_of shares p.number)
  its_stands p there =
      elim (its_state (Zones (n + 1) (Stands false) Waits) start all parts shares were_here n q at p there).0 [
        | inl before ↦ before.1
        | inr behind ↦ absurd (omega (arith, behind.0))
      ]

  pub its_cut : (p : Part) → slice_get start n ≡ Some p → c ≡ cut_of p
  its_cut p there =
      cut_there start n p c there (subst (λ (cs : List Change). slice_get cs n ≡ Some c) are (ap (slice_get cuts) count ∙ (popped cuts now left c split front).0))

  pub waits_down : AreApart start → CanWaitEach start all → (mark : ℕ) (r : Part) (new : Shares) → IsSameAs q r
      → ((other : ℕ) → other ≢ q.number → share_of new other ≡ share_of shares other) → HasWaited mark c q shares r new
      → EachIs (Zones (length left) (Stands false) Waits) start all (slice_set parts n r) new
  waits_down apart can mark r new still kept_others waited =
      subst (λ (k : ℕ). EachIs (Zones k (Stands false) Waits) start all (slice_set parts n r) new) count
      (zone_down (Stands false) Waits start all apart parts shares n q at r new still kept_others were_here
      (λ p there stands.
      waits_now p q (its_same p there) all shares n stands (can n p there) mark r new still
      (subst (λ (d : Change). HasWaited mark d q shares r new) (its_cut p there) waited)))

-- none waits yet; all do
pub none_waits : (start : List Part) (all : Shares) (parts : List Part) (shares : Shares) (cuts : List Change) → cuts ≡ map cut_of start
    → EachIs (Stands false) start all parts shares → EachIs (Zones (length cuts) (Stands false) Waits) start all parts shares
none_waits start all parts shares cuts are were =
    each_as (Stands false) (Zones (length cuts) (Stands false) Waits) start all parts shares were
    (λ j p u there is. let within = slice_get_within start j p there in let long = ap length are ∙ length-map start cut_of in inl (omega (arith, within, long), is))

pub all_wait : (start : List Part) (all : Shares) (parts : List Part) (shares : Shares) (now : List Change) → length now ≡ 0
    → EachIs (Zones (length now) (Stands false) Waits) start all parts shares → EachIs Waits start all parts shares
all_wait start all parts shares now none were =
    each_as (Zones (length now) (Stands false) Waits) Waits start all parts shares were
    (λ j p u there is. elim is [
      | inl before ↦ absurd (omega (arith, before.0, none))
      | inr behind ↦ behind.1
    ])
