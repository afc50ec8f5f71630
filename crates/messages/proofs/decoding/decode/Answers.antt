use Rattle.std.proofs.Common.{subst}
use Rattle.messages.proofs.Fields.{IsBytes}
use Rattle.messages.proofs.Payloads.{answer-spelled, answer-xid, answer-only, answer-fault, answer-refused}
use Rattle.messages.proofs.decoding.decode.Goals as goal

pub returns : goal.returns
returns c =
    let fits = subst IsBytes c.as_slice.ensures c.are_bytes.ensures in
    record {
      spelled = answer-spelled c.args.payload.now c.args.in_block c.read_payload.result fits c.read_payload.ensures;
      xid = answer-xid c.args.payload.now c.args.in_block c.read_payload.result fits c.read_payload.ensures;
      only = λ m s. answer-only c.args.payload.now c.args.in_block c.read_payload.result m c.read_payload.ensures s;
      fault = answer-fault c.args.payload.now c.args.in_block c.read_payload.result fits c.read_payload.ensures;
      refused = λ fault s. answer-refused c.args.payload.now c.args.in_block c.read_payload.result fault fits c.read_payload.ensures s;
    }
