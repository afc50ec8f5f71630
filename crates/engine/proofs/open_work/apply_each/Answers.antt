use Rattle.std.proofs.Common.{◌≡◌, ◌+◌, ◌++◌, ◌∷◌, [], List, length, take, sym, ◌∙◌, ap, subst, append_assoc, arith}
use Rattle.std.specs.Prelude.{All, drop}
use Rattle.std.proofs.lemmas.List.{take_more, take-append-drop}
use Rattle.model.specs.Named.{NamesTables}
use Rattle.model.specs.Effect.{serial}
use Rattle.model.specs.Rows.{Schema}
use Rattle.model.specs.Survivors.{changes_of}
use Rattle.model.specs.declared.item.Item.{Item}
use Rattle.model.specs.Accepted.{AreAccepted}
use Rattle.engine.specs.FirstClash.{ClashesIn}
use Rattle.engine.specs.FirstClashLemmas.{list_done, list_clear, list_refused}
use Rattle.engine.proofs.SerialSteps.{if_err}
use Rattle.engine.proofs.open_work.apply_each.Goals as goal
use Rattle.engine.proofs.open_work.apply_each.Goals.{After-apply_item}
use Rattle.live_tables.specs.NamedLemmas.{changes_at}

-- the items up to this one are those before it and it
up_to_item : (c : After-apply_item) → take (c.loop-item.item-index + 1) c.args.items.now ≡ take c.loop-item.item-index c.args.items.now ++ c.item-item.result ∷ []
up_to_item c =
    take_more c.args.items.now c.loop-item.item-index c.item-item.result (omega (arith, c.loop-item-test.true, c.loop-item.auto))
    ∙ ap (λ (x : Item). take c.loop-item.item-index c.args.items.now ++ x ∷ []) (sym c.item-item.is)

pub apply_item-requires-clause-tables : goal.apply_item-requires-clause-tables
apply_item-requires-clause-tables c =
    let items = c.args.items.now in
    let n = c.loop-item.item-index in
    let item = c.item-item.result in
    let up_to = take_more items n item (omega (arith, c.loop-item-test.true, c.loop-item.auto)) ∙ ap (λ (x : Item). take n items ++ x ∷ []) (sym c.item-item.is) in
    let split : items ≡ take n items ++ item ∷ drop (n + 1) items = sym (take-append-drop (n + 1) items) ∙ ap (λ (xs : List Item). xs ++ drop (n + 1) items) up_to ∙ append_assoc (take n items) (item ∷ []) (drop (n + 1) items) in
    subst (λ (keys : Schema). All (NamesTables (length keys)) (changes_of (item ∷ []))) (sym c.loop-item.invariant.schema)
    (changes_at (NamesTables (length c.args.tables.now.schema)) (take n items) (drop (n + 1) items) item
    (subst (λ (xs : List Item). All (NamesTables (length c.args.tables.now.schema)) (changes_of xs)) split c.requires.tables))

pub loop-item-preserved : goal.loop-item-preserved
loop-item-preserved c =
    let before = c.loop-item.invariant in
    let schema = c.args.tables.now.schema in
    let rows = c.args.tables.now.rows in
    let items = c.args.items.now in
    let n = c.loop-item.item-index in
    let item = c.item-item.result in
    let more = up_to_item (goal.at.loop-item-preserved c).After-apply_item in
    record {
      schema = c.apply_item.ensures.schema ∙ before.schema;
      done = list_done schema rows c.loop-item.tables.rows c.apply_item.new.tables.rows items n item more before.done
          (c.in_ok-apply_item.ensures.ok ∙ ap (λ (s : Schema). serial s c.loop-item.tables.rows (changes_of (item ∷ []))) before.schema);
      clear = list_clear schema rows c.loop-item.tables.rows c.apply_item.new.tables.rows items n item more before.done before.clear
          (subst (λ (s : Schema). AreAccepted s c.loop-item.tables.rows (changes_of (item ∷ []))) before.schema c.in_ok-apply_item.ensures.clear);
      base = c.apply_item.ensures.base ∙ before.base;
      can_undo = c.apply_item.ensures.can_undo;
    }

pub returns-in_err-apply_item-clause-refused : goal.returns-in_err-apply_item-clause-refused
returns-in_err-apply_item-clause-refused c =
    let before = c.loop-item.invariant in
    let clash = c.in_err-apply_item.field-0.0 in
    if_err c.from_residual.result clash _ c.from_residual.ensures.1
    (list_refused c.args.tables.now.schema c.args.tables.now.rows c.loop-item.tables.rows c.apply_item.new.tables.rows c.args.items.now c.loop-item.item-index c.item-item.result
    (up_to_item (goal.at.returns-in_err-apply_item-clause-refused c).After-apply_item) before.done clash before.clear
    (subst (λ (s : Schema). ClashesIn s c.loop-item.tables.rows (changes_of (c.item-item.result ∷ [])) clash) before.schema c.in_err-apply_item.ensures.refused))
