use Rattle.std.proofs.Common.{◌∙◌, ap, ◌++◌, codes, refl}
use Rattle.std.specs.Fmt.{decimal}
use Rattle.std.proofs.lemmas.Result.{on_ok_weaker}
use Rattle.run.specs.Report.{table_name, session_fault_name}
use Rattle.run.proofs.ReportLoops.{appended, further}
use Rattle.run.proofs.printing.push_end.Goals as goal

pub returns-in-Session : goal.returns-in-Session
returns-in-Session c =
    let text = c.args.text.now.items in
    let name = session_fault_name c.in-Session.fault in
    rw c.in-Session.is (on_ok_weaker c.push_words-in-Session.result (λ e. further text (codes "end 3 Session ") name refl (e ∙ ap (λ n. text ++ codes "end 3 Session " ++ n) c.session_fault.ensures)) c.push_words-in-Session.ensures)

pub returns-in_ok-push-in-Unique : goal.returns-in_ok-push-in-Unique
returns-in_ok-push-in-Unique c =
    let text = c.args.text.now.items in
    let name = table_name c.args.definitions.now c.in-Unique.table in
    let one = further text (codes "end 5 Unique ") name c.in_ok-extend_from_slice-in-Unique.ensures.items c.in_ok-push_table_name-in-Unique.ensures in
    let two = further text (codes "end 5 Unique " ++ name) (codes " ") one c.in_ok-push-in-Unique.ensures.items in
    rw c.in-Unique.is (on_ok_weaker c.push_number.result (further text (codes "end 5 Unique " ++ name ++ codes " ") (decimal c.in-Unique.key) two) c.push_number.ensures)

pub returns-in_ok-extend_from_slice-in-NullKey : goal.returns-in_ok-extend_from_slice-in-NullKey
returns-in_ok-extend_from_slice-in-NullKey c =
    let text = c.args.text.now.items in
    let name = table_name c.args.definitions.now c.in-NullKey.table in
    rw c.in-NullKey.is (on_ok_weaker c.push_table_name-in-NullKey.result (further text (codes "end 6 NullKey ") name c.in_ok-extend_from_slice-in-NullKey.ensures.items) c.push_table_name-in-NullKey.ensures)

pub returns-in_ok-push-in-HeldKey : goal.returns-in_ok-push-in-HeldKey
returns-in_ok-push-in-HeldKey c =
    let text = c.args.text.now.items in
    let xid = decimal c.in-HeldKey.xid in
    let one = further text (codes "end 7 HeldKey ") xid c.in_ok-extend_from_slice-in-HeldKey.ensures.items (c.in_ok-push_number-in-HeldKey.ensures ∙ ap (λ n. c.extend_from_slice-in-HeldKey.new.self.items ++ decimal n) c.from.ensures) in
    let two = further text (codes "end 7 HeldKey " ++ xid) (codes " ") one c.in_ok-push-in-HeldKey.ensures.items in
    rw c.in-HeldKey.is (on_ok_weaker c.push_number-in-HeldKey-2.result (further text (codes "end 7 HeldKey " ++ xid ++ codes " ") (decimal c.in-HeldKey.holder) two) (rw (← c.from-in-HeldKey.ensures) c.push_number-in-HeldKey-2.ensures))

pub returns-in-OutOfMemory : goal.returns-in-OutOfMemory
returns-in-OutOfMemory c =
    rw c.in-OutOfMemory.is (appended c.extend_from_slice-in-OutOfMemory.result c.args.text.now.items (codes "end 8 OutOfMemory") c.extend_from_slice-in-OutOfMemory.ensures.items)
