use Rattle.std.proofs.Common.{◌≡◌, Some, None, refl, sym, ap, ◌∙◌}
use Rattle.std.specs.Prelude.{if◌then◌else◌}
use Rattle.std.specs.Ordering.{nat_cmp}
use Rattle.std.specs.FinMap as map
use Rattle.std.proofs.lemmas.Bool.{eq-eqb, ne_eqb}
use Rattle.session.proofs.session.Session.new.Goals as goal
use Rattle.session.proofs.session.Session.new.Goals.{then-skip-eq0, else-skip-eq0}

pub returns : goal.returns
returns c = λ g workers spool skip. record {
  phase = refl;
  here = tt;
  alone = λ xid o is_open direct. let no : None ≡ Some o = sym (map.get-empty nat_cmp xid) ∙ is_open in cc;
  transactions = c.new.ensures g workers spool;
  relations = c.new-2.ensures g;
  position = refl;
  skip =
      elim c.if-skip-eq0.branch [
        | then-skip-eq0 w ↦ w.result-is ∙ sym (ap (λ b. if b then None else Some g.skip) (eq-eqb g.skip 0 (skip ∙ w.if-skip-eq0.true)))
        | else-skip-eq0 w ↦
            w.result-is ∙ ap Some (sym skip)
            ∙ sym (ap (λ b. if b then None else Some g.skip) (ne_eqb g.skip 0 (λ none. w.if-skip-eq0.false (sym skip ∙ none))))
      ];
}
