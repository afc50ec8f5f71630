use Rattle.std.proofs.Common.{rules, arith, ◌≡◌, ◌∙◌, ℕ, ◌≤◌, ◌∷◌, ◌++◌, List, Some, length, sym, ap, subst, vec_len}
use Rattle.std.specs.Prelude.{slice_get}
use Rattle.std.specs.Vec.Iter.{into_iter_items}
use Rattle.tokens.specs.Half.{Name}
use Rattle.table_locks.specs.StartLemmas.{here, taken_front, taken_count, fits_begun}
use Rattle.table_locks.specs.Starts.{MadeTable, MadeStore, IsBegun, IsMade}
use Rattle.table_locks.proofs.store.Store.lay.Goals as goal

pub new-requires : goal.new-requires
new-requires g c =
    let t : MadeTable = (c.in-Some.part, c.in-Some.commits) in
    let taken = c.loop-part.yielded in
    let split : c.args.made.tables ≡ taken ++ t ∷ into_iter_items c.next.new.self =
    sym (ap (λ (m : MadeStore). m.tables) c.made.view_is) ∙ sym c.into_iter-part-iterator.ensures.into_iter_gives.0
    ∙ taken_front c.into_iter-part-iterator.result taken c.loop-part.part-iterator c.loop-part.yielded_by
    ∙ ap (λ xs. taken ++ xs) c.in-Some.ensures.steps.0 in
    let at : slice_get c.args.made.tables (length taken) ≡ Some t =
    ap (λ (ts : List MadeTable). slice_get ts (length taken)) split ∙ here taken t (into_iter_items c.next.new.self) in
    fits_begun g.N.StoreNames.shares g.N.StoreNames.tables g.N.StoreNames.schema g.N.StoreNames.start (length taken) t
    (subst (λ (name : Name). IsBegun name (length taken) t) c.requires.names.book ((subst IsMade c.made.view_is c.made.invariant).begun.each (length taken) t at))
    (c.requires.names.tickets (length taken) t at) (c.requires.names.over (length taken) t at)

pub invariant_of-result : goal.invariant_of-result
invariant_of-result g c =
    let taken = c.loop-part.yielded in
    let made : c.made.inside.tables.items ≡ c.args.made.tables = ap (λ (m : MadeStore). m.tables) c.made.view_is in
    let whole = c.into_iter-part-iterator.ensures.into_iter_gives.1 in
    let counted : vec_len c.made.inside.tables ≡ length c.made.inside.tables.items = search rules in
    let left = taken_count c.into_iter-part-iterator.result taken c.loop-part.part-iterator c.loop-part.yielded_by in
    let none = c.in-None.ensures.steps.0 in
    let count : length taken ≡ length c.made.inside.tables.items = omega (arith, whole, counted, left, none) in
    record {
      all = c.loop-part.invariant.0 ∙ count ∙ ap (λ (ts : List MadeTable). length ts) made ∙ c.requires.names.long;
      few = subst (λ (n : ℕ). n ≤ 1024) c.requires.names.long (subst IsMade c.made.view_is c.made.invariant).few;
      keys = ap (λ (m : MadeStore). m.blank.schema) c.made.view_is ∙ c.requires.names.keys;
      known = c.requires.names.known;
    }
