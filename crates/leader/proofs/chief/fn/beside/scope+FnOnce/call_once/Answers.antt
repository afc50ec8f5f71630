use Rattle.leader.proofs.chief.fn.beside.scope+FnOnce.call_once.Goals as goal

-- what goes to another thread may, and the leader can lead
pub scope-requires : goal.scope-requires
scope-requires g c =
    let asked = c.requires.1.1.1.1.1.1.1 in
    (asked.1.0, (asked.1.1, (asked.1.2, (asked.1.3, (asked.1.4, asked.0)))))
