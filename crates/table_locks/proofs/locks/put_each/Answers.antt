use Rattle.std.proofs.Common.{rules, ◌≡◌, ◌<◌, ◌∙◌, None, length, sym, ap, subst}
use Rattle.std.proofs.lemmas.List.{get_or_default}
use Rattle.std.specs.Prelude.{slice_set}
use Rattle.table_locks.specs.Lending.{state_of, state_at, FitEach}
use Rattle.table_locks.specs.LendingLemmas.{last_room, last_fits, fit_without}
use Rattle.table_locks.proofs.locks.put_each.Goals as goal

pub put-requires : goal.put-requires
put-requires g c =
    let l = c.loop-part in
    let left = c.pop.new.self.items in
    let place : c.len.result ≡ length left = search rules in
    let room = last_room g.N.StoreNames.shares g.N.StoreNames.tables g.N.StoreNames.schema g.N.StoreNames.start l.guards l.lent.items left c.in-Some.part c.in-Some.ensures.items l.invariant.0 in
    let there : c.len.result < length l.guards = subst (λ n. n < length l.guards) (sym place) room in
    let (s, at, fits) =
    last_fits g.N.StoreNames.shares g.N.StoreNames.tables g.N.StoreNames.schema g.N.StoreNames.start l.guards l.lent.items left c.in-Some.part c.in-Some.ensures.items l.invariant.0 in
    (s, ap state_of (get_or_default l.guards c.len.result c.index-guards-len.result None there) ∙ ap (state_at l.guards) place ∙ at, fits)

pub loop-part-preserved : goal.loop-part-preserved
loop-part-preserved g c =
    let l = c.loop-part in
    let left = c.pop.new.self.items in
    let place : c.len.result ≡ length left = search rules in (
      subst (λ n. FitEach g.N.StoreNames.shares g.N.StoreNames.tables g.N.StoreNames.schema g.N.StoreNames.start (slice_set l.guards n c.put.new.place) left) (sym place)
          (fit_without g.N.StoreNames.shares g.N.StoreNames.tables g.N.StoreNames.schema g.N.StoreNames.start l.guards l.lent.items left c.in-Some.part
          c.in-Some.ensures.items l.invariant.0 c.put.new.place),
      search rules,
    )
