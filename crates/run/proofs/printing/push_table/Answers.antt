use Rattle.std.proofs.Common.{◌∙◌, ap, ◌++◌, codes, length}
use Rattle.std.specs.List.{flat_map}
use Rattle.std.specs.Fmt.{decimal}
use Rattle.std.proofs.lemmas.Result.{on_ok_weaker}
use Rattle.run.specs.Report.{name_text, row_text}
use Rattle.run.proofs.ReportLoops.{further}
use Rattle.run.proofs.printing.push_table.Goals as goal

pub returns : goal.returns
returns c =
    let text = c.args.text.now.items in
    let rows = c.args.rows in
    let name = name_text c.args.definition.now in
    let one = further text (codes "table ") name c.in_ok-extend_from_slice.ensures.items c.in_ok-push_name.ensures in
    let two = further text (codes "table " ++ name) (codes " ") one c.in_ok-push.ensures.items in
    let three = further text (codes "table " ++ name ++ codes " ") (decimal (length rows)) two (c.in_ok-push_number.ensures ∙ ap (λ n. c.push.new.self.items ++ decimal n) c.requires) in
    let four = further text (codes "table " ++ name ++ codes " " ++ decimal (length rows)) (codes "\n") three c.in_ok-push-2.ensures.items in
    on_ok_weaker c.push_rows.result (further text (codes "table " ++ name ++ codes " " ++ decimal (length rows) ++ codes "\n") (flat_map row_text rows) four) c.push_rows.ensures
