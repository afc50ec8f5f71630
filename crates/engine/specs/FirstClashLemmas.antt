-- The laws of changes one after another.
--     serial_last      the rows after one change more
--     ClashesIn-behind, ClashesIn-before, ClashesIn-one      a refusal among later changes, before others, of one
--     one_refused      that of a call that tried one change
--     list_done, list_clear, list_refused      items of a list in turn, by how many of them were applied
use Rattle.std.specs.Prelude.{◌≡◌, ℕ, ◌+◌, take, drop, List, [], ◌∷◌, ◌++◌, refl, Result, Ok, Err, IfErr}
use Rattle.std.proofs.Common.{sym, ◌∙◌, ap, subst, append_assoc}
use Rattle.std.proofs.lemmas.List.{take-append-drop}
use Rattle.model.specs.declared.change.Change.{Change}
use Rattle.model.specs.declared.item.Item.{Item}
use Rattle.model.specs.Rows.{Rows, Schema}
use Rattle.model.specs.Effect.{effect, serial}
use Rattle.model.specs.EffectLemmas.{serial_append}
use Rattle.model.specs.SerialLemmas.{accepted_append}
use Rattle.model.specs.Survivors.{changes_of}
use Rattle.model.specs.SurvivorLemmas.{changes_of_both}
use Rattle.model.specs.Accepted.{AreAccepted}
use Rattle.change.specs.declared.outcome.Clash.{Clash}
use Rattle.change.specs.Refusal.{ClashesAs}
use Rattle.engine.specs.FirstClash.{ClashesIn}

-- one change more
pub serial_last : (schema : Schema) (rows : Rows) (cs : List Change) (c : Change) → serial schema rows (cs ++ c ∷ []) ≡ effect schema (serial schema rows cs) c
serial_last schema rows cs c = serial_append schema rows cs (c ∷ [])

-- a refusal among later changes is one among all
pub ClashesIn-behind : (schema : Schema) (rows : Rows) (cs ds : List Change) (clash : Clash) → AreAccepted schema rows cs → ClashesIn schema (serial schema rows cs) ds clash → ClashesIn schema rows (cs ++ ds) clash
ClashesIn-behind schema rows cs ds clash clear r = record {
  before = cs ++ r.before;
  change = r.change;
  after = r.after;
  split = ap (λ (es : List Change). cs ++ es) r.split ∙ sym (append_assoc cs r.before (r.change ∷ r.after));
  clear = accepted_append schema rows cs r.before clear r.clear;
  refused = subst (λ (at : Rows). ClashesAs schema at r.change clash) (sym (serial_append schema rows cs r.before)) r.refused;
}

-- a refusal among changes is one among those and later ones
pub ClashesIn-before : (schema : Schema) (rows : Rows) (cs ds : List Change) (clash : Clash) → ClashesIn schema rows cs clash → ClashesIn schema rows (cs ++ ds) clash
ClashesIn-before schema rows cs ds clash r = record {
  before = r.before;
  change = r.change;
  after = r.after ++ ds;
  split = ap (λ (es : List Change). es ++ ds) r.split ∙ append_assoc r.before (r.change ∷ r.after) ds;
  clear = r.clear;
  refused = r.refused;
}

-- one change that is refused
pub ClashesIn-one : (schema : Schema) (rows : Rows) (c : Change) (clash : Clash) → ClashesAs schema rows c clash → ClashesIn schema rows (c ∷ []) clash
ClashesIn-one schema rows c clash r = record { before = []; change = c; after = []; split = refl; clear = tt; refused = r }

pub one_refused : {T : Type 0} (schema : Schema) (rows : Rows) (c : Change) (r : Result T Clash) → IfErr r (ClashesAs schema rows c) → IfErr r (ClashesIn schema rows (c ∷ []))
one_refused schema rows c (Ok x) refused = tt
one_refused schema rows c (Err clash) refused = ClashesIn-one schema rows c clash refused

-- ---- items of a list in turn, by how many of them were applied

module _ (schema : Schema) (rows at new : Rows) (items : List Item) (n : ℕ) (item : Item)
    (more : take (n + 1) items ≡ take n items ++ item ∷ []) (done : at ≡ serial schema rows (changes_of (take n items))) where
  changes_more : changes_of (take (n + 1) items) ≡ changes_of (take n items) ++ changes_of (item ∷ [])
  changes_more = ap changes_of more ∙ changes_of_both (take n items) (item ∷ [])

  pub list_done : new ≡ serial schema at (changes_of (item ∷ [])) → new ≡ serial schema rows (changes_of (take (n + 1) items))
  list_done here =
      here
      ∙ ap (λ (r : Rows). serial schema r (changes_of (item ∷ []))) done
      ∙ sym (serial_append schema rows (changes_of (take n items)) (changes_of (item ∷ [])))
      ∙ ap (serial schema rows) (sym changes_more)

  pub list_clear : AreAccepted schema rows (changes_of (take n items)) → AreAccepted schema at (changes_of (item ∷ [])) → AreAccepted schema rows (changes_of (take (n + 1) items))
  list_clear clear here =
      subst (AreAccepted schema rows) (sym changes_more)
      (accepted_append schema rows (changes_of (take n items)) (changes_of (item ∷ [])) clear
      (subst (λ (r : Rows). AreAccepted schema r (changes_of (item ∷ []))) done here))

  -- one of them was refused
  pub list_refused : (clash : Clash) → AreAccepted schema rows (changes_of (take n items)) → ClashesIn schema at (changes_of (item ∷ [])) clash → ClashesIn schema rows (changes_of items) clash
  list_refused clash clear here =
      let there = subst (λ (r : Rows). ClashesIn schema r (changes_of (item ∷ [])) clash) done here in
      let front = ClashesIn-behind schema rows (changes_of (take n items)) (changes_of (item ∷ [])) clash clear there in
      let whole = ap changes_of (sym (take-append-drop (n + 1) items)) ∙ changes_of_both (take (n + 1) items) (drop (n + 1) items) ∙ ap (λ (cs : List Change). cs ++ changes_of (drop (n + 1) items)) changes_more in
      subst (λ (cs : List Change). ClashesIn schema rows cs clash) (sym whole)
      (ClashesIn-before schema rows (changes_of (take n items) ++ changes_of (item ∷ [])) (changes_of (drop (n + 1) items)) clash front)
