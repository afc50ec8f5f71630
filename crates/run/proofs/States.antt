-- What a message that was taken makes of the commits, of what was begun, and of the open transactions.
use Rattle.std.proofs.Common.{◌≡◌, ℕ, true, false, List, [], ◌∷◌, ◌++◌, Some, None, refl, sym, ap, subst, ◌∙◌, arith, ⊎_elim}
use Rattle.std.specs.Prelude.{map}
use Rattle.std.specs.Ordering.{nat_cmp, eq_by_cmp}
use Rattle.std.specs.Cmp.{nat_cmp_total}
use Rattle.std.specs.FinMap as finite
use Rattle.std.proofs.lemmas.Bool.{cases_eq}
use Rattle.std.proofs.lemmas.Grind.{flat_map-append}
use Rattle.std.proofs.lemmas.List.{map-append}
use Rattle.std.proofs.lemmas.Bool.Decides.{nat_tests}
use Rattle.model.specs.declared.item.Item.{Item}
use Rattle.model.specs.declared.item.Item.TheVariants.{Change, Touch, BackTo, Last}
use Rattle.model.specs.Survivors.{changes_of}
use Rattle.model.specs.SurvivorLemmas.{work_of, work_with_change}
use Rattle.session.specs.Sized.{SizedItems, item_of}
use Rattle.session.specs.State.{Open, Committed, OpenTransactions}
use Rattle.session.specs.StreamEvents.{IsChange}
use Rattle.world.specs.World.{Entry}
use Rattle.run.specs.Commits.{surviving_changes, changes_of_entries, commit_ends}
use Rattle.model.specs.Beginning.{last_end}
use Rattle.run.specs.Applier.{IsServed, AreServed}
use Rattle.model.specs.BeginningLemmas.{last_end-append}

-- ---- lists

pub changes_of_entries-append : (xs ys : List Entry)
    → changes_of_entries (xs ++ ys) ≡ changes_of_entries xs ++ changes_of_entries ys
changes_of_entries-append xs ys = flat_map-append (λ (e : Entry). e.changes) xs ys

pub last_end-push : (past : List Committed) (c : Committed) → last_end (commit_ends (past ++ c ∷ [])) ≡ c.info.end
last_end-push past c = ap last_end (map-append (λ (d : Committed). d.info.end) past (c ∷ [])) ∙ last_end-append (commit_ends past) c.info.end

-- ---- survivors

-- a change that comes survives so far
pub surviving-change : (top : ℕ) (items : SizedItems) (item : Item) (size : ℕ) → IsChange item → surviving_changes top (items ++ (item, size) ∷ []) ≡ surviving_changes top items ++ changes_of (item ∷ [])
surviving-change top items (Change sub c) size is =
    ap (work_of top) (map-append item_of items ((Change sub c, size) ∷ []))
    ∙ work_with_change top sub (map item_of items) c
surviving-change top items (Touch sub) size is = absurd is
surviving-change top items (BackTo sub) size is = absurd is
surviving-change top items Last size is = absurd is

-- ---- the open transactions

tied : (x q : ℕ) → x ≡ q → eq_by_cmp nat_cmp q x ≡ true
tied x q e = grind (arith, nat_tests)

apart : (x q : ℕ) → (x ≡ q → ⊥) → eq_by_cmp nat_cmp q x ≡ false
apart x q ne = grind (arith, nat_tests)

pub get-inserted : (m : OpenTransactions) (xid : ℕ) (o : Open) → finite.get (finite.insert m xid o) xid ≡ Some o
get-inserted m xid o = finite.get-insert nat_cmp_total m xid o xid ∙ rw (tied xid xid refl)

pub get-other : (m : OpenTransactions) (xid : ℕ) (o : Open) (x : ℕ) → (xid ≡ x → ⊥) → finite.get (finite.insert m xid o) x ≡ finite.get m x
get-other m xid o x ne = finite.get-insert nat_cmp_total m xid o x ∙ rw (apart xid x ne)

pub get-left : (m : OpenTransactions) (xid x : ℕ) → (xid ≡ x → ⊥) → finite.get (finite.remove m xid) x ≡ finite.get m x
get-left m xid x ne = finite.get-remove nat_cmp_total m xid x ∙ rw (apart xid x ne)

pub get-gone : (m : OpenTransactions) (xid : ℕ) → finite.get (finite.remove m xid) xid ≡ None
get-gone m xid = finite.get-remove nat_cmp_total m xid xid ∙ rw (tied xid xid refl)

pub AreServed-insert : (count : ℕ) (m : OpenTransactions) (xid : ℕ) (o : Open) → AreServed count m → IsServed count o → AreServed count (finite.insert m xid o)
AreServed-insert count m xid o are is = λ q found there.
    ⊎_elim
    (λ (same : xid ≡ q).
    let here : finite.get (finite.insert m xid o) q ≡ Some o = finite.get-insert nat_cmp_total m xid o q ∙ rw (tied xid q same) in
    let e : o ≡ found = cc in subst (IsServed count) e is)
    (λ ne. are q found (sym (finite.get-insert nat_cmp_total m xid o q ∙ rw (apart xid q ne)) ∙ there))
    (cases_eq xid q)

pub AreServed-remove : (count : ℕ) (m : OpenTransactions) (xid : ℕ) → AreServed count m → AreServed count (finite.remove m xid)
AreServed-remove count m xid are = λ q found there.
    ⊎_elim
    (λ (same : xid ≡ q).
    let gone : finite.get (finite.remove m xid) q ≡ None = finite.get-remove nat_cmp_total m xid q ∙ rw (tied xid q same) in
    absurd cc)
    (λ ne. are q found (sym (finite.get-remove nat_cmp_total m xid q ∙ rw (apart xid q ne)) ∙ there))
    (cases_eq xid q)
