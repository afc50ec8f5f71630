-- What a spooled transaction has done, where one of its items wasn't.
use Rattle.std.proofs.Common.{◌≡◌, ℕ, List, [], ◌∷◌, ◌++◌, Option, Some, None, refl, sym, ap, subst, ◌∙◌, append-nil, inl, inr}
use Rattle.std.specs.Prelude.{MatchOption, Result, Ok, Err, OnErr, IfErr}
use Rattle.std.specs.Result.{IsErrAnd}
use Rattle.std.specs.Iterator.{Yields}
use Rattle.std.specs.Vec.Iter.{into_iter_items, into_iter_steps}
use Rattle.std.specs.declared.vec.IntoIter.{IntoIter}
use Rattle.model.specs.declared.item.Item.{Item}
use Rattle.model.specs.declared.item.Item.TheVariants.{Change}
use Rattle.world.specs.World.{Opened}
use Rattle.run.specs.declared.end.End.{End}
use Rattle.dispatch.specs.Handle.{IsDoing}
use Rattle.dispatch.specs.Standing.{Own, Standing, with_wanted, IsUndone, IsStoreEnd, IsMet, IsOwn, HasDoneAll, HasTried}

-- what the iterator of a vector has given is a front of its items
pub taken_front : {X A : Type 0} (s : IntoIter X A) (xs : List X) (t : IntoIter X A) → Yields into_iter_steps s xs t → into_iter_items s ≡ xs ++ into_iter_items t
taken_front s [] t y = ap into_iter_items y
taken_front s (x ∷ xs) t y = y.1.0 ∙ ap (λ ys. x ∷ ys) (taken_front y.0 xs t y.2)

pub on_err : {A E P : Type 0} (r : Result A E) → P → OnErr r P
on_err (Ok a) p = tt
on_err (Err e) p = p

-- what holds where it was refused
pub on_err_so : {A E P Q : Type 0} (r : Result A E) → OnErr r P → (P → Q) → OnErr r Q
on_err_so (Ok a) p so = tt
on_err_so (Err e) p so = so p

-- an error that was passed on
pub if_err : {A : Type 0} (r : Result A End) (is : End) (P : End → Type 0) → IsErrAnd r (λ end. end ≡ is) → P is → IfErr r P
if_err (Ok a) is P err p = absurd err
if_err (Err end) is P err p = subst P (sym err) p

-- an end by an item of this transaction
pub met_end : (old new : Standing) (xid : ℕ) (item : Item) (end : End) → IsMet old xid item new end → IsStoreEnd (Some xid) end
met_end old new xid item end (inl (same, stop)) = stop (Some xid)
met_end old new xid item end (inr (done, after, undo, does, store)) = store

-- what a transaction has done that did the front of its work, where the next item is noted, or isn't
pub undone_doing : (front rest : List Item) (item : Item) (d after : Opened) → d ≡ record { items = front; wants = None } → IsUndone d item after → IsDoing after (front ++ item ∷ rest)
undone_doing front rest item d after e (inl same) = record {
  left = item ∷ rest;
  begins = ap (λ (o : Opened). o.items ++ item ∷ rest) (same ∙ e);
  wants = subst (λ w. MatchOption w (Unit {0}) (λ w. (more : List Item) × (item ∷ rest ≡ Change w.0 w.1 ∷ more))) (sym (ap (λ (o : Opened). o.wants) (same ∙ e))) tt;
}
undone_doing front rest item d after e (inr (sub, c, is, same)) = record {
  left = item ∷ rest;
  begins = ap (λ (o : Opened). o.items ++ item ∷ rest) (same ∙ ap (λ (o : Opened). with_wanted o sub c) e);
  wants = subst (λ w. MatchOption w (Unit {0}) (λ w. (more : List Item) × (item ∷ rest ≡ Change w.0 w.1 ∷ more))) (sym (ap (λ (o : Opened). o.wants) same)) (rest, ap (λ (i : Item). i ∷ rest) is);
}

-- the leader's own is this one
own_done : (m : Option Own) (xid : ℕ) (d e : Opened) → m ≡ Some (record { xid = xid; done = e }) → m ≡ Some (record { xid = xid; done = d }) → d ≡ e
own_done m xid d e is was = same_own (record { xid = xid; done = d }) (record { xid = xid; done = e }) (sym was ∙ is)
  where
    same_own : (a b : Own) → Some a ≡ Some b → a.done ≡ b.done
    same_own a b e = let both : a ≡ b = cc in ap (λ (o : Own). o.done) both

pub tried_more : (old mid new : Standing) (xid : ℕ) (front rest : List Item) (item : Item) → HasDoneAll old xid front mid → (end : End) → IsMet mid xid item new end → HasTried old xid (front ++ item ∷ rest) new
tried_more old mid new xid front rest item done end (inl (same, stop)) = record {
  none = done.none;
  nowhere = done.nowhere;
  done = record { items = front; wants = None };
  doing = undone_doing front rest item (record { items = front; wants = None }) (record { items = front; wants = None }) refl (inl refl);
  is = same ∙ done.is;
}
tried_more old mid new xid front rest item done end (inr (d, after, undo, does, store)) =
    let e = own_done mid.begun xid d (record { items = front; wants = None }) (ap (λ (st : Standing). st.begun) done.is) does.was_own in
    record {
      none = done.none;
      nowhere = done.nowhere;
      done = after;
      doing = undone_doing front rest item d after e undo;
      is = does.is_own ∙ ap (λ (st : Standing). record st { begun = Some (record { xid = xid; done = after }) }) done.is;
    }

-- one that has done all of its items is the leader's own, and has tried them
pub own_all : (old new : Standing) (xid : ℕ) (items : List Item) → HasDoneAll old xid items new → IsOwn new xid
own_all old new xid items all = record { done = record { items = items; wants = None }; is = ap (λ (t : Standing). t.begun) all.is }

pub tried_all : (old new : Standing) (xid : ℕ) (items : List Item) → HasDoneAll old xid items new → HasTried old xid items new
tried_all old new xid items all = record {
  none = all.none;
  nowhere = all.nowhere;
  done = record { items = items; wants = None };
  doing = record { left = []; begins = append-nil items; wants = tt };
  is = all.is;
}
