-- The server's types that the subscriber keeps as types of its own, by their OIDs (`pg_type.dat`), and which
-- defaults a column of such a type may have.
use Rattle.std.specs.Prelude.{ℕ, List, codes, Bool, true, false, ◌||◌, ◌==◌, Option, Some, None, if◌then◌else◌}
use Rattle.publication.specs.declared.columns.Kind.{Kind}
use Rattle.publication.specs.declared.columns.Kind.TheVariants.{Int, Text, Bool as Truth}
use Rattle.publication.specs.declared.columns.DefaultValue.{DefaultValue}
use Rattle.publication.specs.declared.columns.DefaultValue.TheVariants.{Null, Int as IntValue, Text as TextValue, Bool as TruthValue, Other}

-- what a server's type is kept as: int8, int2 and int4 as Int, text and varchar as Text, bool as Bool
abbrev pub kind_of : ℕ → Option Kind
kind_of oid =
    if oid == 20 || oid == 21 || oid == 23 then Some Int
    else (if oid == 25 || oid == 1043 then Some Text
    else (if oid == 16 then Some Truth
    else None))

-- a type's name in a catalog
abbrev pub name_of : Kind → List ℕ
name_of Int = codes "int"
name_of Text = codes "text"
name_of Truth = codes "bool"

-- whether a column of this type may have this default: null, a value of the type, or none that is kept
abbrev pub is_default_of : Kind → DefaultValue → Bool
is_default_of kind Null = true
is_default_of Int (IntValue number) = true
is_default_of Text (TextValue text) = true
is_default_of Truth (TruthValue value) = true
is_default_of kind Other = true
is_default_of kind value = false
