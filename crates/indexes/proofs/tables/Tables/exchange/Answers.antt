use Rattle.std.proofs.Common.{◌<◌, length, sym, subst}
use Rattle.model.specs.Rows.{Schema}
use Rattle.indexes.proofs.Exchanged.{sound_there, schema_there, rows_there, elsewhere_there}
use Rattle.indexes.proofs.tables.Tables.exchange.Goals as goal

known : (c : goal.After-other-1) → c.args.table < length c.args.other.now.schema
known c = subst (λ (s : Schema). c.args.table < length s) (sym c.requires.keys) c.requires.known

pub invariant_of-self : goal.invariant_of-self
invariant_of-self c =
    sound_there c.self.inside.tables.items c.other.inside.tables.items c.args.self.now c.args.other.now c.self.view_is c.other.view_is c.requires.keys c.args.table c.requires.known
    c.index_mut-here.result.now c.index_mut-there.result.now c.index_mut-here.ensures.value c.index_mut-there.ensures.value c.swap.new.x c.swap.ensures.x_after c.self.invariant c.other.invariant

pub invariant_of-other : goal.invariant_of-other
invariant_of-other c =
    sound_there c.other.inside.tables.items c.self.inside.tables.items c.args.other.now c.args.self.now c.other.view_is c.self.view_is (sym c.requires.keys) c.args.table (known c)
    c.index_mut-there.result.now c.index_mut-here.result.now c.index_mut-there.ensures.value c.index_mut-here.ensures.value c.swap.new.y c.swap.ensures.y_after c.other.invariant c.self.invariant

pub returns-clause-schema : goal.returns-clause-schema
returns-clause-schema c =
    schema_there c.self.inside.tables.items c.other.inside.tables.items c.args.self.now c.args.other.now c.self.view_is c.other.view_is c.requires.keys c.args.table c.requires.known
    c.index_mut-here.result.now c.index_mut-there.result.now c.index_mut-here.ensures.value c.index_mut-there.ensures.value c.swap.new.x c.swap.ensures.x_after

pub returns-clause-rows : goal.returns-clause-rows
returns-clause-rows c =
    rows_there c.self.inside.tables.items c.other.inside.tables.items c.args.self.now c.args.other.now c.self.view_is c.other.view_is c.requires.keys c.args.table c.requires.known
    c.index_mut-here.result.now c.index_mut-there.result.now c.index_mut-here.ensures.value c.index_mut-there.ensures.value c.swap.new.x c.swap.ensures.x_after

pub returns-clause-elsewhere : goal.returns-clause-elsewhere
returns-clause-elsewhere c =
    elsewhere_there c.self.inside.tables.items c.other.inside.tables.items c.args.self.now c.args.other.now c.self.view_is c.other.view_is c.requires.keys c.args.table c.requires.known
    c.index_mut-here.result.now c.index_mut-there.result.now c.index_mut-here.ensures.value c.index_mut-there.ensures.value c.swap.new.x c.swap.ensures.x_after

pub returns-clause-schema_there : goal.returns-clause-schema_there
returns-clause-schema_there c =
    schema_there c.other.inside.tables.items c.self.inside.tables.items c.args.other.now c.args.self.now c.other.view_is c.self.view_is (sym c.requires.keys) c.args.table (known c)
    c.index_mut-there.result.now c.index_mut-here.result.now c.index_mut-there.ensures.value c.index_mut-here.ensures.value c.swap.new.y c.swap.ensures.y_after

pub returns-clause-rows_there : goal.returns-clause-rows_there
returns-clause-rows_there c =
    rows_there c.other.inside.tables.items c.self.inside.tables.items c.args.other.now c.args.self.now c.other.view_is c.self.view_is (sym c.requires.keys) c.args.table (known c)
    c.index_mut-there.result.now c.index_mut-here.result.now c.index_mut-there.ensures.value c.index_mut-here.ensures.value c.swap.new.y c.swap.ensures.y_after

pub returns-clause-elsewhere_there : goal.returns-clause-elsewhere_there
returns-clause-elsewhere_there c =
    elsewhere_there c.other.inside.tables.items c.self.inside.tables.items c.args.other.now c.args.self.now c.other.view_is c.self.view_is (sym c.requires.keys) c.args.table (known c)
    c.index_mut-there.result.now c.index_mut-here.result.now c.index_mut-there.ensures.value c.index_mut-here.ensures.value c.swap.new.y c.swap.ensures.y_after
