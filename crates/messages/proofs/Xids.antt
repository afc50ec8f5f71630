-- The xid is there exactly in a block.
use Rattle.std.proofs.Common.{◌≡◌, ℕ, Bool, true, false, List, [], Option, refl}
use Rattle.std.specs.Prelude.{is_some}
use Rattle.messages.specs.declared.message.Message.{Message}
use Rattle.messages.specs.declared.tag.Tag.{Tag}
use Rattle.messages.specs.declared.tag.Tag.TheVariants as tags
use Rattle.messages.specs.Format.{Spells}
use Rattle.messages.specs.Messages.{xid_in, type_name, insert, update, delete, truncate, logical_message, body, message, Spelled, HasXid}

xid_there : (in_block : Bool) (bytes : List ℕ) (xid : Option ℕ) (rest : List ℕ) → Spells (xid_in in_block) bytes xid rest → is_some xid ≡ in_block
unfolding xid_in
xid_there false bytes xid rest s = rw s.0 refl
xid_there true bytes xid rest s = rw s.3.0 refl

body_has_xid : (in_block : Bool) (t : Tag) (bytes : List ℕ) (m : Message) (rest : List ℕ) → Spells (body in_block t) bytes m rest → HasXid in_block m
unfolding type_name insert update delete truncate logical_message
body_has_xid in_block tags.Begin bytes m rest s = rw s.3.0 tt
body_has_xid in_block tags.Commit bytes m rest s = rw s.3.0 tt
body_has_xid in_block tags.Origin bytes m rest s = rw s.3.0 tt
body_has_xid in_block tags.Relation bytes m rest s = rw s.3.3.0 (xid_there in_block bytes s.0 s.1 s.2)
body_has_xid in_block tags.TypeName bytes m rest s = let b = s.2 in rw (s.3.0, b.3.3.3.3.0) (xid_there in_block bytes b.0 b.1 b.2)
body_has_xid in_block tags.Insert bytes m rest s = let b = s.2 in rw (s.3.0, b.3.3.3.3.0) (xid_there in_block bytes b.0 b.1 b.2)
body_has_xid in_block tags.Update bytes m rest s = let b = s.2 in rw (s.3.0, b.3.3.3.3.0) (xid_there in_block bytes b.0 b.1 b.2)
body_has_xid in_block tags.Delete bytes m rest s = let b = s.2 in rw (s.3.0, b.3.3.3.0) (xid_there in_block bytes b.0 b.1 b.2)
body_has_xid in_block tags.Truncate bytes m rest s = let b = s.2 in rw (s.3.0, b.3.3.3.3.0) (xid_there in_block bytes b.0 b.1 b.2)
body_has_xid in_block tags.Message bytes m rest s = let b = s.2 in rw (s.3.0, b.3.3.3.3.3.0) (xid_there in_block bytes b.0 b.1 b.2)
body_has_xid in_block tags.StreamStart bytes m rest s = rw s.3.0 tt
body_has_xid in_block tags.StreamStop bytes m rest s = rw s.0 tt
body_has_xid in_block tags.StreamCommit bytes m rest s = rw s.3.0 tt
body_has_xid in_block tags.StreamAbort bytes m rest s = rw s.3.0 tt

pub spelled_has_xid : (payload : List ℕ) (in_block : Bool) (m : Message) → Spelled payload in_block m → HasXid in_block m
unfolding Spelled message
spelled_has_xid payload in_block m s = body_has_xid in_block s.0 s.1 m [] s.3
