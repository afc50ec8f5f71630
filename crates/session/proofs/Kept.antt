-- What is kept of the open transactions, as one is opened, changed or closed.
use Rattle.std.proofs.Common.{◌≡◌, ◌≢◌, ℕ, ◌+◌, ◌-◌, ◌<◌, ◌^◌, Bool, true, false, List, [], ◌∷◌, ◌++◌, map as mapped, length, Option, Some, None, cond, refl, sym, ap, subst, ◌∙◌, ◌≤◌, if◌then◌else◌, arith, ⊎_elim}
use Rattle.std.specs.Prelude.{sum, option_map, is_some, not, nat_le, IsSome, Result, Ok, Err, IsErrAnd}
use Rattle.std.specs.Ordering.{nat_cmp, eq_by_cmp}
use Rattle.std.specs.Cmp.{nat_cmp_total}
use Rattle.std.specs.BTreeMap.{BTreeMap, btree_map_len, get, is_at, Updates, WritesThrough}
use Rattle.std.specs.FinMap as map
use Rattle.std.proofs.lemmas.Bool.{cases_Bool, cases_eq, ne_eqb, leb-true}
use Rattle.std.proofs.lemmas.List.{map-append}
use Rattle.std.proofs.lemmas.Bool.Decides.{nat_tests}
use Rattle.session.specs.declared.transactions.OpenTransaction.{OpenTransaction}
use Rattle.session.specs.State.{Way, Direct, Worker, Spooled, Open, OpenTransactions, Setting, has_worker, sized_survivors, worker_count, spool_bytes, spool_bytes_of}
use Rattle.session.specs.declared.transactions.Transactions.{Transactions}
use Rattle.session.specs.declared.fault.SessionFault.{SessionFault}
use Rattle.session.specs.declared.fault.SessionFault.TheVariants.{AlreadyOpen, SpoolFull}
use Rattle.session.specs.declared.fault.Refused.{Refused}
use Rattle.session.specs.declared.fault.Refused.TheVariants.{Session}
use Rattle.session.specs.declared.transactions.OpenTransaction.TheVariants as kept_parts
use Rattle.session.specs.Sized.{SizedItems, item_of, size_of, bytes_of}
use Rattle.model.specs.declared.item.Item.{Item}
use Rattle.model.specs.declared.item.Item.TheVariants.{Change, Touch, BackTo, Last}
use Rattle.model.specs.Survivors.{left_by}
use Rattle.model.specs.SurvivorLemmas.{survivors_by_with}
use Rattle.savepoint.specs.Savepoints.{before_first}
use Rattle.session.proofs.Spools.{sum-push, take-front}
use Rattle.session.specs.Table.{new_open, room_fault, has_room}
use Rattle.session.specs.KeptTransactions.{kept_part, Represents, IsOpened, IsStreamed, Survives, item_back, spool_fault}
use Rattle.session.specs.Kept.{is_spool, is_spooled, is_spooled_open, bytes_kept, kept_more, back_of, without_last, cut_back}
use Rattle.session.proofs.Totals.{get-insert_same, insert-insert, insert_same, total-insert_absent, total-insert, total-remove}

-- The map has just what is kept of the open transactions.
abbrev pub WaysAre : BTreeMap ℕ OpenTransaction → OpenTransactions → Type 0
WaysAre ways m = (xid : ℕ) → get nat_cmp ways xid ≡ option_map (λ (o : Open). kept_part xid o.items o.way) (map.get m xid)

tied : (x q : ℕ) → x ≡ q → eq_by_cmp nat_cmp q x ≡ true
tied x q e = grind (arith, nat_tests)

apart : (x q : ℕ) → (x ≡ q → ⊥) → eq_by_cmp nat_cmp q x ≡ false
apart x q ne = grind (arith, nat_tests)

pub apart_at : (x q : ℕ) → (x ≡ q → ⊥) → is_at (nat_cmp x) q ≡ false
apart_at x q ne = grind (arith, nat_tests)

pub WaysAre-insert : (old new : BTreeMap ℕ OpenTransaction) (m : OpenTransactions) (xid : ℕ) (o : Open) → WaysAre old m → Updates nat_cmp old new xid (Some (kept_part xid o.items o.way)) → WaysAre new (map.insert m xid o)
WaysAre-insert old new m xid o are step = λ q.
    ⊎_elim
    (λ (same : xid ≡ q).
    let here : get nat_cmp new xid ≡ Some (kept_part xid o.items o.way) = step.1 in
    let there : map.get (map.insert m xid o) q ≡ Some o = map.get-insert nat_cmp_total m xid o q ∙ rw (tied xid q same) in
    sym (ap (get nat_cmp new) same) ∙ here ∙ ap (λ n. Some (kept_part n o.items o.way)) same ∙ sym (ap (option_map (λ (p : Open). kept_part q p.items p.way)) there))
    (λ ne.
    let there : map.get (map.insert m xid o) q ≡ map.get m q = map.get-insert nat_cmp_total m xid o q ∙ rw (apart xid q ne) in
    step.2 q (apart_at xid q ne) ∙ are q ∙ sym (ap (option_map (λ (p : Open). kept_part q p.items p.way)) there))
    (cases_eq xid q)

pub WaysAre-remove : (old new : BTreeMap ℕ OpenTransaction) (m : OpenTransactions) (xid : ℕ) → WaysAre old m → Updates nat_cmp old new xid None → WaysAre new (map.remove m xid)
WaysAre-remove old new m xid are step = λ q.
    ⊎_elim
    (λ (same : xid ≡ q).
    let here : get nat_cmp new xid ≡ None = step.1 in
    let there : map.get (map.remove m xid) q ≡ None = map.get-remove nat_cmp_total m xid q ∙ rw (tied xid q same) in
    sym (ap (get nat_cmp new) same) ∙ here ∙ sym (ap (option_map (λ (p : Open). kept_part q p.items p.way)) there))
    (λ ne.
    let there : map.get (map.remove m xid) q ≡ map.get m q = map.get-remove nat_cmp_total m xid q ∙ rw (apart xid q ne) in
    step.2 q (apart_at xid q ne) ∙ are q ∙ sym (ap (option_map (λ (p : Open). kept_part q p.items p.way)) there))
    (cases_eq xid q)

is_some-option_map : {A B : Type 0} (f : A → B) (o : Option A) → is_some (option_map f o) ≡ is_some o
is_some-option_map f None = refl
is_some-option_map f (Some x) = refl

-- a transaction is kept exactly if it is open
pub kept_if_open : (ways : BTreeMap ℕ OpenTransaction) (m : OpenTransactions) (xid : ℕ) → WaysAre ways m → is_some (get nat_cmp ways xid) ≡ map.contains_key m xid
kept_if_open ways m xid are = ap is_some (are xid) ∙ is_some-option_map (λ (o : Open). kept_part xid o.items o.way) (map.get m xid)

-- ---- what the limits count

pub absent_from_room : (m : OpenTransactions) (xid : ℕ) → room_fault m xid ≡ None → map.get m xid ≡ None
absent_from_room m xid e = none_from (map.get m xid) (⊎_elim
    (λ is_open. let fault : Some AlreadyOpen ≡ None = rw is_open at e in cc)
    (λ closed. closed)
    (cases_Bool (map.contains_key m xid)))
  where
    none_from : (o : Option Open) → is_some o ≡ false → o ≡ None
    none_from None e = refl
    none_from (Some x) e = cc

pub worker_count-insert : (m : OpenTransactions) (xid : ℕ) (o : Open) → map.get m xid ≡ None → worker_count (map.insert m xid o) ≡ cond (has_worker o.way) 1 0 + worker_count m
worker_count-insert m xid o none = total-insert_absent (λ (t : ℕ × Open). cond (has_worker t.1.way) 1 0) m xid o none

pub spool_bytes-insert : (m : OpenTransactions) (xid : ℕ) (o : Open) → map.get m xid ≡ None → spool_bytes (map.insert m xid o) ≡ spool_bytes_of xid o.items o.way + spool_bytes m
spool_bytes-insert m xid o none = total-insert_absent (λ (t : ℕ × Open). spool_bytes_of t.0 t.1.items t.1.way) m xid o none

pub worker_count-remove : (m : OpenTransactions) (xid : ℕ) (o : Open) → map.get m xid ≡ Some o → worker_count m ≡ cond (has_worker o.way) 1 0 + worker_count (map.remove m xid)
worker_count-remove m xid o some = total-remove (λ (t : ℕ × Open). cond (has_worker t.1.way) 1 0) m xid o some

pub spool_bytes-remove : (m : OpenTransactions) (xid : ℕ) (o : Open) → map.get m xid ≡ Some o → spool_bytes m ≡ spool_bytes_of xid o.items o.way + spool_bytes (map.remove m xid)
spool_bytes-remove m xid o some = total-remove (λ (t : ℕ × Open). spool_bytes_of t.0 t.1.items t.1.way) m xid o some

pub len-insert_absent : (m : OpenTransactions) (xid : ℕ) (o : Open) → map.get m xid ≡ None → map.len (map.insert m xid o) ≡ map.len m + 1
len-insert_absent m xid o none = map.len-insert nat_cmp_total m xid o ∙ rw (ap is_some none)

pub len-remove_present : (m : OpenTransactions) (xid : ℕ) (o : Open) → map.get m xid ≡ Some o → map.len (map.remove m xid) ≡ map.len m - 1
len-remove_present m xid o some = map.len-remove nat_cmp_total m xid ∙ rw (ap is_some some)

-- ---- a transaction more

-- what is kept once a transaction is opened
pub Represents-insert : (g : Setting) (old new : Transactions) (m : OpenTransactions) (xid : ℕ) (way : Way) → Represents g old m → map.get m xid ≡ None
    → Updates nat_cmp old.ways new.ways xid (Some (kept_part xid [] way)) → btree_map_len new.ways ≡ btree_map_len old.ways + 1
    → new.workers ≡ old.workers → new.working ≡ cond (has_worker way) 1 0 + old.working → new.spool ≡ old.spool → new.spooled ≡ old.spooled → spool_bytes_of xid [] way ≡ 0
    → Represents g new (map.insert m xid (new_open way))
Represents-insert g old new m xid way kept none step more workers working_is spool spooled_is empty = record {
  ways = WaysAre-insert old.ways new.ways m xid (new_open way) kept.ways step;
  count = more ∙ ap (λ n. n + 1) kept.count ∙ sym (len-insert_absent m xid (new_open way) none);
  workers = workers ∙ kept.workers;
  working = working_is ∙ ap (λ n. cond (has_worker way) 1 0 + n) kept.working ∙ sym (worker_count-insert m xid (new_open way) none);
  room = spool ∙ kept.room;
  spooled = let sums = spool_bytes-insert m xid (new_open way) none in omega (arith, sums, empty, spooled_is, kept.spooled);
  fits = omega (arith, spooled_is, kept.fits);
  limit = omega (arith, spool, kept.limit);
}

-- what is kept once a transaction is closed
pub Represents-remove : (g : Setting) (old new : Transactions) (m : OpenTransactions) (xid : ℕ) (o : Open) → Represents g old m → map.get m xid ≡ Some o
    → Updates nat_cmp old.ways new.ways xid None → btree_map_len new.ways + 1 ≡ btree_map_len old.ways
    → new.workers ≡ old.workers → new.working ≡ old.working - cond (has_worker o.way) 1 0 → new.spool ≡ old.spool → new.spooled ≡ old.spooled - spool_bytes_of xid o.items o.way
    → Represents g new (map.remove m xid)
Represents-remove g old new m xid o kept some step less workers working_is spool spooled_is = record {
  ways = WaysAre-remove old.ways new.ways m xid kept.ways step;
  count = let one = len-remove_present m xid o some in omega (arith, one, less, kept.count);
  workers = workers ∙ kept.workers;
  working = let sums = worker_count-remove m xid o some in omega (arith, sums, working_is, kept.working);
  room = spool ∙ kept.room;
  spooled = let sums = spool_bytes-remove m xid o some in omega (arith, sums, spooled_is, kept.spooled);
  fits = omega (arith, spooled_is, kept.fits);
  limit = omega (arith, spool, kept.limit);
}

-- ---- an item more

-- what survives once an item has come is what it leaves of those that survived
pub sized_survivors-append : (top : ℕ) (items : SizedItems) (item : Item) (size : ℕ) → sized_survivors top (items ++ (item, size) ∷ []) ≡ left_by item_of top (sized_survivors top items) (item, size) item
sized_survivors-append top items item size = survivors_by_with item_of top items (item, size)

left_by-survives : (top : ℕ) (kept : SizedItems) (item : Item) (size : ℕ) → Survives item → left_by item_of top kept (item, size) item ≡ kept ++ (item, size) ∷ []
left_by-survives top kept (Change sub c) size is = refl
left_by-survives top kept (Touch sub) size is = refl
left_by-survives top kept (BackTo sub) size is = absurd is
left_by-survives top kept Last size is = absurd is

-- what survives of a transaction once it got an item that drops none
pub sized_survivors-taken : (top : ℕ) (items : SizedItems) (item : Item) (size : ℕ) → Survives item → sized_survivors top (items ++ (item, size) ∷ []) ≡ sized_survivors top items ++ (item, size) ∷ []
sized_survivors-taken top items item size is = sized_survivors-append top items item size ∙ left_by-survives top (sized_survivors top items) item size is

pub sized_survivors-rolled_back : (top : ℕ) (items : SizedItems) (sub : ℕ) → sub ≢ top → sized_survivors top (items ++ (BackTo sub, 0) ∷ []) ≡ before_first sub (sized_survivors top items)
sized_survivors-rolled_back top items sub apart = sized_survivors-append top items (BackTo sub) 0 ∙ rw (ne_eqb sub top apart)

pub bytes_of-append : (items : SizedItems) (item : Item) (size : ℕ) → bytes_of (items ++ (item, size) ∷ []) ≡ bytes_of items + size
bytes_of-append items item size =
    let both : bytes_of (items ++ (item, size) ∷ []) ≡ sum (mapped size_of items ++ size ∷ []) = ap sum (map-append size_of items ((item, size) ∷ [])) in
    let more = sum-push (mapped size_of items) size in
    omega (arith, both, more)

len-insert_present : (m : OpenTransactions) (xid : ℕ) (o p : Open) → map.get m xid ≡ Some o → map.len (map.insert m xid p) ≡ map.len m
len-insert_present m xid o p some = map.len-insert nat_cmp_total m xid p ∙ rw (ap is_some some)

-- what is kept once a transaction has other items
pub Represents-change : (g : Setting) (old new : Transactions) (m : OpenTransactions) (xid : ℕ) (o p : Open) → Represents g old m → map.get m xid ≡ Some o → p.way ≡ o.way
    → Updates nat_cmp old.ways new.ways xid (Some (kept_part xid p.items p.way)) → btree_map_len new.ways ≡ btree_map_len old.ways
    → new.workers ≡ old.workers → new.working ≡ old.working → new.spool ≡ old.spool
    → new.spooled + spool_bytes_of xid o.items o.way ≡ old.spooled + spool_bytes_of xid p.items p.way → new.spooled < 2 ^ 64
    → Represents g new (map.insert m xid p)
Represents-change g old new m xid o p kept some way step same workers working_is spool spooled_is fits = record {
  ways = WaysAre-insert old.ways new.ways m xid p kept.ways step;
  count = same ∙ kept.count ∙ sym (len-insert_present m xid o p some);
  workers = workers ∙ kept.workers;
  working =
      let less = worker_count-remove m xid o some in
      let more : worker_count (map.insert m xid p) ≡ cond (has_worker p.way) 1 0 + worker_count (map.remove m xid) = total-insert (λ (t : ℕ × Open). cond (has_worker t.1.way) 1 0) m xid p in
      let one : cond {A = ℕ} (has_worker p.way) 1 0 ≡ cond (has_worker o.way) 1 0 = ap (λ w. cond {A = ℕ} (has_worker w) 1 0) way in
      omega (arith, less, more, one, working_is, kept.working);
  room = spool ∙ kept.room;
  spooled =
      let less = spool_bytes-remove m xid o some in
      let more : spool_bytes (map.insert m xid p) ≡ spool_bytes_of xid p.items p.way + spool_bytes (map.remove m xid) = total-insert (λ (t : ℕ × Open). spool_bytes_of t.0 t.1.items t.1.way) m xid p in
      omega (arith, less, more, spooled_is, kept.spooled);
  fits = fits;
  limit = omega (arith, spool, kept.limit);
}

-- ---- what is kept of one transaction, as it gets and drops items

pub kept_value : (g : Setting) (v : Transactions) (m : OpenTransactions) (xid : ℕ) (o : Open) → Represents g v m → map.get m xid ≡ Some o → get nat_cmp v.ways xid ≡ Some (kept_part xid o.items o.way)
kept_value g v m xid o kept some = kept.ways xid ∙ ap (option_map (λ (p : Open). kept_part xid p.items p.way)) some

-- what was found of an open transaction is what is kept of it
pub found_is : (g : Setting) (v : Transactions) (m : OpenTransactions) (xid : ℕ) (o : Open) (k : OpenTransaction) → Represents g v m → map.get m xid ≡ Some o → Some k ≡ get nat_cmp v.ways xid → k ≡ kept_part xid o.items o.way
found_is g v m xid o k kept some found = let same : Some k ≡ Some (kept_part xid o.items o.way) = found ∙ kept_value g v m xid o kept some in cc

pub keeping_more : (xid : ℕ) (items : SizedItems) (item : Item) (size : ℕ) (way : Way) → Survives item → kept_more (kept_part xid items way) item size ≡ kept_part xid (items ++ (item, size) ∷ []) way
keeping_more xid items item size Direct is = refl
keeping_more xid items item size Worker is = refl
keeping_more xid items item size Spooled is = ap kept_parts.Spooled (sym (sized_survivors-taken xid items item size is))

pub keeping_less : (xid : ℕ) (items : SizedItems) (item : Item) (size : ℕ) (way : Way) → Survives item → without_last (kept_part xid (items ++ (item, size) ∷ []) way) ≡ kept_part xid items way
keeping_less xid items item size Direct is = refl
keeping_less xid items item size Worker is = refl
keeping_less xid items item size Spooled is = ap (λ (s : SizedItems). without_last (kept_parts.Spooled s)) (sized_survivors-taken xid items item size is) ∙ ap kept_parts.Spooled (take-front (sized_survivors xid items) (item, size))

pub keeping_cut : (xid : ℕ) (items : SizedItems) (sub : ℕ) (way : Way) → sub ≢ xid → cut_back sub (kept_part xid items way) ≡ kept_part xid (items ++ (BackTo sub, 0) ∷ []) way
keeping_cut xid items sub Direct apart = refl
keeping_cut xid items sub Worker apart = refl
keeping_cut xid items sub Spooled apart = ap kept_parts.Spooled (sym (sized_survivors-rolled_back xid items sub apart))

pub back_of-keeping : (xid : ℕ) (items : SizedItems) (item : Item) (way : Way) → back_of (kept_part xid items way) item ≡ item_back way item
back_of-keeping xid items item Direct = refl
back_of-keeping xid items item Worker = refl
back_of-keeping xid items item Spooled = refl

pub bytes_kept-keeping : (xid : ℕ) (items : SizedItems) (way : Way) → bytes_kept (kept_part xid items way) ≡ spool_bytes_of xid items way
bytes_kept-keeping xid items Direct = refl
bytes_kept-keeping xid items Worker = refl
bytes_kept-keeping xid items Spooled = refl

pub is_spool-keeping : (xid : ℕ) (items : SizedItems) (way : Way) → is_spool (kept_part xid items way) ≡ is_spooled way
is_spool-keeping xid items Direct = refl
is_spool-keeping xid items Worker = refl
is_spool-keeping xid items Spooled = refl

-- the bytes of an item more
pub spool_bytes_of-taken : (xid : ℕ) (items : SizedItems) (item : Item) (size : ℕ) (way : Way) → Survives item → spool_bytes_of xid (items ++ (item, size) ∷ []) way ≡ spool_bytes_of xid items way + cond (is_spooled way) size 0
spool_bytes_of-taken xid items item size Direct is = refl
spool_bytes_of-taken xid items item size Worker is = refl
spool_bytes_of-taken xid items item size Spooled is = ap bytes_of (sized_survivors-taken xid items item size is) ∙ bytes_of-append (sized_survivors xid items) item size

is_some-item_back : (way : Way) (item : Item) → is_some (item_back way item) ≡ not (is_spooled way)
is_some-item_back Direct item = refl
is_some-item_back Worker item = refl
is_some-item_back Spooled item = refl

-- it is kept if and only if it is not given back
pub kept_if_none : (way : Way) (item : Item) (back : Option Item) (none : Bool) → back ≡ item_back way item → is_some back ≡ not none → is_spooled way ≡ none
kept_if_none way item back none is test = same_from_not (is_spooled way) none (sym (is_some-item_back way item) ∙ sym (ap is_some is) ∙ test)
  where
    same_from_not : (a b : Bool) → not a ≡ not b → a ≡ b
    same_from_not true true e = refl
    same_from_not true false e = cc
    same_from_not false true e = cc
    same_from_not false false e = refl

pub nothing_spooled : (xid : ℕ) (items others : SizedItems) (way : Way) → is_spooled way ≡ false → spool_bytes_of xid items way ≡ spool_bytes_of xid others way
nothing_spooled xid items others Direct e = refl
nothing_spooled xid items others Worker e = refl
nothing_spooled xid items others Spooled e = cc

-- a spooled transaction's item has room for its payload
pub room_within : (g : Setting) (m : OpenTransactions) (size : ℕ) (way : Way) → has_room g m size way ≡ true → is_spooled way ≡ true → spool_bytes m + size ≤ g.spool
room_within g m size Direct room is = cc
room_within g m size Worker room is = cc
room_within g m size Spooled room is = leb-true (spool_bytes m + size) g.spool room

pub spool_fault-full : (g : Setting) (m : OpenTransactions) (size : ℕ) (o : Option Open) → is_spooled_open o ≡ true → nat_le (spool_bytes m + size) g.spool ≡ false → spool_fault g m size o ≡ Some SpoolFull
spool_fault-full g m size None spools over = cc
spool_fault-full g m size (Some o) spools over = by_way o.way spools
  where
    by_way : (way : Way) → is_spooled way ≡ true → (if has_room g m size way then None else Some SpoolFull) ≡ Some SpoolFull
    by_way Direct is = cc
    by_way Worker is = cc
    by_way Spooled is = rw over

pub spool_fault-room : (g : Setting) (m : OpenTransactions) (size : ℕ) (o : Option Open) → nat_le (spool_bytes m + size) g.spool ≡ true → spool_fault g m size o ≡ None
spool_fault-room g m size None room = refl
spool_fault-room g m size (Some o) room = by_way o.way
  where
    by_way : (way : Way) → (if has_room g m size way then None else Some SpoolFull) ≡ None
    by_way Direct = refl
    by_way Worker = refl
    by_way Spooled = rw room

pub spool_fault-free : (g : Setting) (m : OpenTransactions) (size : ℕ) (o : Option Open) → is_spooled_open o ≡ false → spool_fault g m size o ≡ None
spool_fault-free g m size None free = refl
spool_fault-free g m size (Some o) free = by_way o.way free
  where
    by_way : (way : Way) → is_spooled way ≡ false → (if has_room g m size way then None else Some SpoolFull) ≡ None
    by_way Direct is = refl
    by_way Worker is = refl
    by_way Spooled is = cc

-- what is kept once something else was written for a transaction
pub Represents-written : (g : Setting) (old new : Transactions) (m : OpenTransactions) (xid : ℕ) (o p : Open) (k : OpenTransaction) → Represents g old m → map.get m xid ≡ Some o → p.way ≡ o.way
    → WritesThrough nat_cmp (nat_cmp xid) old.ways k new.ways → k ≡ kept_part xid p.items p.way
    → new.workers ≡ old.workers → new.working ≡ old.working → new.spool ≡ old.spool
    → new.spooled + spool_bytes_of xid o.items o.way ≡ old.spooled + spool_bytes_of xid p.items p.way → new.spooled < 2 ^ 64
    → Represents g new (map.insert m xid p)
Represents-written g old new m xid o p k kept some way written is workers working_is spool spooled_is fits =
    let there : IsSome (get nat_cmp old.ways xid) = ap is_some (kept_value g old m xid o kept some) in
    Represents-change g old new m xid o p kept some way (subst (λ (v : OpenTransaction). Updates nat_cmp old.ways new.ways xid (Some v)) is (written.3 there)) written.2 workers working_is spool spooled_is fits

-- what is kept once a transaction is again what it was
pub Represents-undone : (g : Setting) (old new : Transactions) (m : OpenTransactions) (xid : ℕ) (o p : Open) (k : OpenTransaction) → Represents g old (map.insert m xid p) → map.get m xid ≡ Some o → o.way ≡ p.way
    → WritesThrough nat_cmp (nat_cmp xid) old.ways k new.ways → k ≡ kept_part xid o.items o.way
    → new.workers ≡ old.workers → new.working ≡ old.working → new.spool ≡ old.spool
    → new.spooled + spool_bytes_of xid p.items p.way ≡ old.spooled + spool_bytes_of xid o.items o.way → new.spooled < 2 ^ 64
    → Represents g new m
Represents-undone g old new m xid o p k kept some way written is workers working_is spool spooled_is fits =
    let back : map.insert (map.insert m xid p) xid o ≡ m = insert-insert m xid p o ∙ insert_same m xid o some in
    subst (λ (n : OpenTransactions). Represents g new n) back (Represents-written g old new (map.insert m xid p) xid p o k kept (get-insert_same m xid p) way written is workers working_is spool spooled_is fits)

-- ---- no transaction

no_entries : (es : List (ℕ × Open)) → length es ≡ 0 → es ≡ []
no_entries [] e = refl
no_entries (x ∷ es) e = absurd (omega arith)

pub entries-empty : map.entries (map.empty {K = ℕ} {X = Open} {R = nat_cmp}) ≡ []
entries-empty = no_entries _ (sym (map.len-entries _) ∙ map.len-empty nat_cmp Open)

-- ---- refusals

-- a fault that became a refusal
pub IsOpened-refused : (g : Setting) (v : Transactions) (m : OpenTransactions) (xid : ℕ) (result : Result (Unit {0}) Refused) (why : SessionFault) → Represents g v m → room_fault m xid ≡ Some why → IsErrAnd result (λ e. e ≡ Session why) → IsOpened g v m xid result
IsOpened-refused g v m xid (Ok u) why kept fault is = absurd is
IsOpened-refused g v m xid (Err e) why kept fault is = (kept, λ other. (why, fault, is))

pub IsStreamed-refused : (g : Setting) (v : Transactions) (m : OpenTransactions) (xid : ℕ) (may : Bool) (result : Result Bool Refused) (why : SessionFault) → Represents g v m → room_fault m xid ≡ Some why → IsErrAnd result (λ e. e ≡ Session why) → IsStreamed g v m xid may result
IsStreamed-refused g v m xid may (Ok u) why kept fault is = absurd is
IsStreamed-refused g v m xid may (Err e) why kept fault is = (kept, λ other. (why, fault, is))

-- ---- what is kept of one transaction

pub kept_absent : (ways : BTreeMap ℕ OpenTransaction) (m : OpenTransactions) (xid : ℕ) → WaysAre ways m → map.get m xid ≡ None → get nat_cmp ways xid ≡ None
kept_absent ways m xid are none = are xid ∙ ap (option_map (λ (o : Open). kept_part xid o.items o.way)) none

pub kept_present : (ways : BTreeMap ℕ OpenTransaction) (m : OpenTransactions) (xid : ℕ) (k : OpenTransaction) → WaysAre ways m → get nat_cmp ways xid ≡ Some k → (o : Open) × (map.get m xid ≡ Some o) × (k ≡ kept_part xid o.items o.way)
kept_present ways m xid k are some = from (map.get m xid) refl
  where
    from : (o : Option Open) → map.get m xid ≡ o → (p : Open) × (map.get m xid ≡ Some p) × (k ≡ kept_part xid p.items p.way)
    from None e = let no : Some k ≡ None = sym some ∙ are xid ∙ ap (option_map (λ (p : Open). kept_part xid p.items p.way)) e in cc
    from (Some o) e = let same : Some k ≡ Some (kept_part xid o.items o.way) = sym some ∙ are xid ∙ ap (option_map (λ (p : Open). kept_part xid p.items p.way)) e in (o, e, cc)

pub none_kept : (ways : BTreeMap ℕ OpenTransaction) (m : OpenTransactions) (xid : ℕ) → WaysAre ways m → get nat_cmp ways xid ≡ None → map.get m xid ≡ None
none_kept ways m xid are none = from (map.get m xid) refl
  where
    from : (o : Option Open) → map.get m xid ≡ o → map.get m xid ≡ None
    from None e = e
    from (Some o) e = let some : None ≡ Some (kept_part xid o.items o.way) = sym none ∙ are xid ∙ ap (option_map (λ (p : Open). kept_part xid p.items p.way)) e in cc

pub is_kept_direct : (xid : ℕ) (items : SizedItems) (way : Way) → kept_parts.Direct ≡ kept_part xid items way → way ≡ Direct
is_kept_direct xid items Direct e = refl
is_kept_direct xid items Worker e = cc
is_kept_direct xid items Spooled e = cc

pub is_kept_worker : (xid : ℕ) (items : SizedItems) (way : Way) → kept_parts.Worker ≡ kept_part xid items way → way ≡ Worker
is_kept_worker xid items Direct e = cc
is_kept_worker xid items Worker e = refl
is_kept_worker xid items Spooled e = cc

pub is_kept_spooled : (xid : ℕ) (items spool : SizedItems) (way : Way) → kept_parts.Spooled spool ≡ kept_part xid items way → (way ≡ Spooled) × (spool ≡ sized_survivors xid items)
is_kept_spooled xid items spool Direct e = cc
is_kept_spooled xid items spool Worker e = cc
is_kept_spooled xid items spool Spooled e = (refl, cc)

-- an open transaction is there
pub present : (m : OpenTransactions) (xid : ℕ) → map.contains_key m xid ≡ true → (o : Open) × (map.get m xid ≡ Some o)
present m xid e = from (map.get m xid) e
  where
    from : (o : Option Open) → is_some o ≡ true → (p : Open) × (o ≡ Some p)
    from None e = cc
    from (Some o) e = (o, refl)

pub absent : (m : OpenTransactions) (xid : ℕ) → map.contains_key m xid ≡ false → map.get m xid ≡ None
absent m xid e = from (map.get m xid) e
  where
    from : (o : Option Open) → is_some o ≡ false → o ≡ None
    from None e = refl
    from (Some o) e = cc
