use Rattle.std.proofs.Common.{◌≡◌, ℕ, List, [], ◌∷◌, ◌++◌, All, sym, ◌∙◌, ap, subst}
use Rattle.std.specs.Map.{keys_of}
use Rattle.std.proofs.lemmas.List.Elements.{All-cons, All-nil}
use Rattle.model.specs.declared.cell.Cell.{Cell}
use Rattle.keyholds.specs.Holds.{cells_held, IsFreeCell}
use Rattle.store_tests.proofs.tests.tables.holds.hold.Goals as goal

-- a list of one
free_alone : {S : Type 0} (held : ℕ → List Cell) (xid : ℕ) (holds before : List (Cell × S)) (hold : Cell × S) → before ≡ [] → holds ≡ before ++ hold ∷ [] → IsFreeCell held xid hold.0 → All (IsFreeCell held xid) (keys_of holds)
free_alone held xid holds before hold none is free =
    let one : hold.0 ∷ [] ≡ keys_of holds = ap keys_of (ap (λ l. l ++ hold ∷ []) (sym none) ∙ sym is) in
    subst (λ l. All (IsFreeCell held xid) l) one (All-cons (IsFreeCell held xid) hold.0 [] free (All-nil (IsFreeCell held xid)))

pub take-requires : goal.take-requires
take-requires c =
    free_alone (cells_held c.args.holds.now) c.args.xid c.push.new.self.items c.new-cells.result.items _ c.new-cells.ensures.items c.in_ok-push.ensures.items c.in_default.ensures.free
