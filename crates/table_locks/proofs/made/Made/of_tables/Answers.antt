use Rattle.std.proofs.Common.{rules, arith, ◌≡◌, ◌∙◌, ◌+◌, ◌≤◌, ◌∷◌, ◌++◌, [], ℕ, length, length-append, refl, sym, ap, subst, vec_len, vec_capacity}
use Rattle.model.specs.Rows.{Rows}
use Rattle.tokens.specs.Lists.{OpenLists, with_list}
use Rattle.world_parts.specs.ByTable.{rows_at}
use Rattle.world_parts.specs.Lines.{TableCommit}
use Rattle.table_locks.specs.StartLemmas.{none_begun, begun_more, over_none, over_more, left_more, left_same, are_unused, given_back}
use Rattle.table_locks.specs.Starts.{MadeTable, IsBegun, AreBegun, AreOver, AreLeft}
use Rattle.table_locks.proofs.made.Made.of_tables.Goals as goal

-- the rows with which each part begins
abbrev starts : Rows → ℕ → Rows
starts rows number = rows_at number rows

pub loop-number-init : goal.loop-number-init
loop-number-init c =
    let book = c.in-Ok-new.book in
    let start = c.args.start in
    let items = c.in-Ok-with_capacity.ensures.items in
    let counted : vec_len c.in-Ok-with_capacity.tables ≡ 0 = search rules in
    let room : length start.schema ≤ vec_capacity c.in-Ok-with_capacity.tables = search rules in
    record {
      begun = subst (AreBegun book) (sym items) (none_begun book c.in-Ok-new.ensures);
      over = subst (AreOver start.schema (starts start.rows)) (sym items) (over_none start.schema (starts start.rows));
      places = ap length items;
      counted = counted;
      room = room;
      keys = refl;
      rows = λ number past. refl;
    }

pub give_back-requires-clause-unused : goal.give_back-requires-clause-unused
give_back-requires-clause-unused c number t at =
    let l = c.loop-number in
    let is = are_unused l.book c.args.start.schema (starts c.args.start.rows) l.tables.items l.invariant.begun l.invariant.over number t at in
    (is.0 ∙ sym (c.in_default-cut.ensures.schema ∙ l.invariant.keys), is.1)

pub returns-in_default-cut-clause-rows : goal.returns-in_default-cut-clause-rows
returns-in_default-cut-clause-rows c =
    let l = c.loop-number in
    let start = c.args.start in
    let was = c.cut.new.start.rows in
    given_back start.schema start.rows was c.give_back.new.start.rows l.tables.items l.invariant.over
    (subst (λ (n : ℕ). AreLeft start.rows n was) (sym l.invariant.places)
    (left_same start.rows l.number l.start.rows l.invariant.rows was c.in_default-cut.ensures.err c.in_default-cut.ensures.beside))
    c.give_back.ensures.back c.give_back.ensures.beyond

pub loop-number-preserved : goal.loop-number-preserved
loop-number-preserved c =
    let l = c.loop-number in
    let start = c.args.start in
    let t : MadeTable = c.in-Ok-cut.table in
    let items = c.push_reserved.ensures.items in
    let places = l.invariant.places in
    let is = c.in-Ok-cut.ensures.over in
    let counted : vec_len c.push_reserved.new.self ≡ l.number + 1 = search rules in
    let room : length start.schema ≤ vec_capacity c.push_reserved.new.self = search rules in
    record {
      begun =
          subst (AreBegun c.cut.new.book) (sym items)
          (subst (λ (book : OpenLists TableCommit). AreBegun book (l.tables.items ++ t ∷ []))
          (ap (λ (n : ℕ). with_list l.book n []) places ∙ sym c.in-Ok-cut.ensures.book)
          (begun_more l.book l.tables.items l.invariant.begun t (subst (λ (n : ℕ). IsBegun l.book.name n t) (sym places) c.in-Ok-cut.ensures.begun)));
      over =
          subst (AreOver start.schema (starts start.rows)) (sym items)
          (over_more start.schema (starts start.rows) l.tables.items t l.invariant.over
          (is.0 ∙ l.invariant.keys, is.1 ∙ l.invariant.rows l.number (omega arith) ∙ ap (starts start.rows) (sym places)));
      places = ap length items ∙ length-append l.tables.items (t ∷ []) ∙ ap (λ n. n + 1) places;
      counted = counted;
      room = room;
      keys = c.in-Ok-cut.ensures.schema ∙ l.invariant.keys;
      rows = left_more start.rows l.number l.start.rows l.invariant.rows c.cut.new.start.rows c.in-Ok-cut.ensures.beside;
    }

pub invariant_of-made : goal.invariant_of-made
invariant_of-made c =
    let l = c.loop-number in
    let few : length l.tables.items ≤ 1024 = search rules in
    let line : c.in-Ok.journal.line.list ≡ [] = search rules in
    record { begun = l.invariant.begun; line = line; few = few }
