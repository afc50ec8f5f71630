-- What is kept of a transaction once room was made for an item, and the item came or did not.
--     waits_made, item_made      the item came
--     same_marks, same_cut      it did not: the savepoint was there before, or is cut away again
use Rattle.std.proofs.Common.{◌≡◌, ◌≢◌, ℕ, ◌+◌, ◌-◌, ◌^◌, true, false, List, [], ◌∷◌, ◌++◌, length, min, is_some, refl, sym, ap, subst, ◌∙◌, inl, inr}
use Rattle.std.specs.Prelude.{if◌then◌else◌, IsSome, IsTrue}
use Rattle.std.specs.List.{list_any}
use Rattle.std.proofs.lemmas.Bool.{cases_eq, eq-eqb, ne_eqb}
use Rattle.model.specs.declared.item.Item.{Item}
use Rattle.model.specs.declared.item.Item.TheVariants.{BackTo}
use Rattle.model.specs.Survivors.{is_of, before_savepoint, after_item}
use Rattle.change.specs.declared.inverse.Inverse.{Inverse}
use Rattle.savepoint.specs.declared.mark.Mark.{Mark}
use Rattle.savepoint.specs.Savepoints.{mark_at, with_mark, before_mark}
use Rattle.savepoint.specs.Record.{Record, AllAreNamed}
use Rattle.savepoint.proofs.Cutting.{before_mark-noted_same, before_mark-unmarked}
use Rattle.live_tables.specs.declared.transaction.OpenTransaction.{OpenTransaction}
use Rattle.live_tables.specs.CallResults.{HasTheSame}
use Rattle.live_tables.specs.Transactions.{WaitsNoMore, HasMadeRoom, HasHeldItem}

module _ (sub held : ℕ) (old mid : OpenTransaction) (made : HasMadeRoom sub held old mid) where
  -- ---- the item came

  pub waits_made : (new : OpenTransaction) → WaitsNoMore mid new → WaitsNoMore old new
  waits_made new more = record { wants = more.wants; done = more.done ∙ ap (λ (count : ℕ). min (count + 1) (2 ^ 64 - 1)) made.done }

  pub item_made : (item : Item) (more : List Inverse) (s : Record) → s.top ≡ mid.record.top → s.survivors ≡ mid.record.survivors ++ item ∷ [] → s.marks ≡ mid.record.marks
      → s.log.inverses ≡ mid.record.log.inverses ++ more → AllAreNamed s → HasHeldItem old.record.top sub item more old.record s held
  item_made item more s top survivors marks inverses named = (
    record {
      mark = record { undo = length old.record.log.inverses; held = held };
      undo = refl;
      top = top ∙ made.top;
      survivors = survivors ∙ ap (λ (items : List Item). items ++ item ∷ []) made.survivors;
      marks = marks ∙ made.marks;
      inverses = inverses ∙ ap (λ (is : List Inverse). is ++ more) made.inverses;
      named = named;
    },
    refl,
  )

  -- ---- it did not

  -- where a savepoint was there, no other was set
  marks_there : is_some (mark_at sub old.record.marks) ≡ true → mid.record.marks ≡ old.record.marks
  marks_there there =
      made.marks ∙
      elim (cases_eq sub old.record.top) [
        | inl same ↦ ap (λ b. if b then old.record.marks else with_mark sub (record { undo = length old.record.log.inverses; held = held }) old.record.marks) (eq-eqb sub old.record.top same)
        | inr below ↦
            ap (λ b. if b then old.record.marks else with_mark sub (record { undo = length old.record.log.inverses; held = held }) old.record.marks) (ne_eqb sub old.record.top below)
            ∙ ap (λ b. if b then old.record.marks else old.record.marks ++ (sub, record { undo = length old.record.log.inverses; held = held }) ∷ []) there
      ]

  pub same_marks : AllAreNamed old.record → is_some (mark_at sub old.record.marks) ≡ true → HasTheSame old.record mid.record
  same_marks named there = record {
    top = made.top;
    survivors = made.survivors;
    marks = marks_there there;
    inverses = made.inverses;
    named = λ other marked.
        subst (λ (items : List Item). IsTrue (list_any (is_of other) items)) (sym made.survivors)
        (named other (subst (λ (marks : List (ℕ × Mark)). IsSome (mark_at other marks)) (marks_there there) marked));
  }

  -- where none was there, one that was set is cut away, and no item with it
  module _ (none : is_some (mark_at sub old.record.marks) ≡ false) (whole : sub ≢ old.record.top → before_savepoint sub old.record.survivors ≡ old.record.survivors) where
    survivors_cut : after_item mid.record.top mid.record.survivors (BackTo sub) ≡ old.record.survivors
    survivors_cut =
        ap (λ (top : ℕ). after_item top mid.record.survivors (BackTo sub)) made.top ∙ ap (λ (items : List Item). after_item old.record.top items (BackTo sub)) made.survivors ∙
        elim (cases_eq sub old.record.top) [
          | inl same ↦ ap (λ b. if b then old.record.survivors else before_savepoint sub old.record.survivors) (eq-eqb sub old.record.top same)
          | inr below ↦ ap (λ b. if b then old.record.survivors else before_savepoint sub old.record.survivors) (ne_eqb sub old.record.top below) ∙ whole below
        ]

    marks_cut : before_mark sub mid.record.marks ≡ old.record.marks
    marks_cut =
        ap (before_mark sub) made.marks ∙
        elim (cases_eq sub old.record.top) [
          | inl same ↦
              ap (λ b. before_mark sub (if b then old.record.marks else with_mark sub (record { undo = length old.record.log.inverses; held = held }) old.record.marks)) (eq-eqb sub old.record.top same)
              ∙ before_mark-unmarked sub old.record.marks none
          | inr below ↦
              ap (λ b. before_mark sub (if b then old.record.marks else with_mark sub (record { undo = length old.record.log.inverses; held = held }) old.record.marks)) (ne_eqb sub old.record.top below)
              ∙ before_mark-noted_same sub (record { undo = length old.record.log.inverses; held = held }) old.record.marks none
        ]

    pub same_cut : (s : Record) → s.top ≡ mid.record.top → s.survivors ≡ after_item mid.record.top mid.record.survivors (BackTo sub) → s.marks ≡ before_mark sub mid.record.marks
        → s.log.inverses ≡ mid.record.log.inverses → AllAreNamed s → HasTheSame old.record s
    same_cut s top survivors marks inverses named = record {
      top = top ∙ made.top;
      survivors = survivors ∙ survivors_cut;
      marks = marks ∙ marks_cut;
      inverses = inverses ∙ made.inverses;
      named = named;
    }
