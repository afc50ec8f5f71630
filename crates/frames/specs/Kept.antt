-- What a reader keeps, by its fields.
use Rattle.frames.specs.declared.reader.Frames.TheInside.{Inside}
use Rattle.frames.specs.Stream.{Reading}
use Rattle.frames.specs.Steps.{ending_in}

-- the items not handed out, and where it stands
abbrev pub reading_left : Inside → Reading
reading_left f = record { items = f.items.items; ending = ending_in f.state f.unread.items }
