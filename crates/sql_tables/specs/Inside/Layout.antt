-- For proofs alone. Whether a table has the columns and the keys of one that is made here, and its references: it may stand in another
-- tree, with other CHECK rules, without STRICT, and with references that name no column.
use Rattle.std.specs.Prelude.{◌≡◌, ◌&&◌, ◌||◌, ◌==◌, ◌∷◌, ℕ, Bool, true, false, not, map, List, [], length, slice_get, Option, None, Some}
use Rattle.sql_tables.specs.Common.{list_all, option_map_or, bytes_eq, Kind, AnyTable, Schema, Order, Column, Reference, table_named, kind_code}
use Rattle.sqlite_value.specs.declared.value.Value.{Value}
use Rattle.sqlite_value.specs.declared.value.Value.TheVariants.{Null, Int, Real, Text as Words, Blob}
use Rattle.sqlite_value.specs.declared.keys.Collation.{Collation}
use Rattle.sqlite_value.specs.declared.keys.Collation.TheVariants.{Binary, NoCase, RTrim}
use Rattle.sql_tables.specs.Table.{TableShape, Place, kind_in}
use Rattle.sql_tables.specs.Inside.Inert.{is_passive}

-- no value
abbrev pub is_nothing : Value → Bool
is_nothing Null = true
is_nothing (Int n) = false
is_nothing (Real x) = false
is_nothing (Words t) = false
is_nothing (Blob b) = false

-- texts compare by their bytes
abbrev pub is_binary : Collation → Bool
is_binary Binary = true
is_binary NoCase = false
is_binary RTrim = false

-- the same position of a column, or none
abbrev pub same_key : Option ℕ → Option ℕ → Bool
same_key None None = true
same_key (Some a) (Some b) = a == b
same_key None (Some b) = false
same_key (Some a) None = false

-- as a column of this name and kind is made, in a table that is STRICT or not: NOT NULL, with no default
abbrev pub is_required : List ℕ × Kind → Column → Bool
is_required declared c = bytes_eq c.name declared.0 && (kind_code c.kind == kind_code (kind_in declared.1 c.is_strict)) && c.not_null && is_nothing c.default && is_binary c.collation

-- the columns are those of a STRICT table
abbrev pub are_strict : List Column → Bool
are_strict = list_all (λ c. c.is_strict)

-- none of them is
abbrev pub are_loose : List Column → Bool
are_loose = list_all (λ c. not c.is_strict)

-- they are those of one table
abbrev pub are_of_one : List Column → Bool
are_of_one columns = are_strict columns || are_loose columns

-- no column of the other table is named
abbrev pub is_bare : Reference → Bool
is_bare r = length r.parent_columns == 0

-- this column alone is named
abbrev pub is_alone : List ℕ → List (List ℕ) → Bool
is_alone name names = (length names == 1) && option_map_or (λ c. bytes_eq c name) (slice_get names 0) false

-- as this reference is made: of one column to one that is named or to the key, with NO ACTION
abbrev pub is_referring : ℕ × List ℕ × List ℕ → Reference → Bool
is_referring link r =
    bytes_eq r.columns (link.0 ∷ []) && bytes_eq r.parent link.1 && (is_bare r || is_alone link.2 r.parent_columns)
    && is_passive r.on_delete && is_passive r.on_update && not r.is_deferred

-- there are as many as are declared, each as the one that is declared at its place
abbrev pub are_declared : {A B : Type 0} → (A → B → Bool) → List A → List B → Bool
are_declared is [] [] = true
are_declared is (a ∷ more) (b ∷ rest) = is a b && are_declared is more rest
are_declared is [] (b ∷ rest) = false
are_declared is (a ∷ more) [] = false

-- this many orders, each ascending
abbrev pub are_plain : ℕ → List Order → Bool
are_plain count orders = (length orders == count) && list_all (λ o. o.digits == 0) orders

-- no default that is computed, and no AUTOINCREMENT
abbrev pub is_untimed : AnyTable → Bool
is_untimed t = (length t.computed == 0) && (length t.stamps.places == 0) && (length t.stamps.terms == 0) && (length t.stamps.formats == 0) && not t.is_counted

-- the keys of the table are those that are declared
abbrev pub has_keys : TableShape → AnyTable → Bool
has_keys shape t = same_key t.key shape.key && bytes_eq t.primary shape.primary && are_declared (λ places list. bytes_eq list places) shape.uniques t.uniques && are_plain (length shape.uniques) t.orders

-- the table is as one of this shape is made
abbrev pub has_shape : TableShape → AnyTable → Bool
has_shape shape t = bytes_eq t.name shape.name && has_keys shape t && are_declared is_required shape.columns t.columns && are_of_one t.columns && are_declared is_referring shape.links t.references && is_untimed t

-- the schema's first table of this name is this one
pub record IsTableNamed (schema : Schema) (name : List ℕ) (table : AnyTable) : Type 0 where
  pub at : ℕ
  pub named : table_named schema name ≡ Some at
  pub there : slice_get schema.tables at ≡ Some table

-- where a table stands
abbrev pub place_of : AnyTable → Place
place_of t = record { tree = t.tree; rules = record { is_strict = are_strict t.columns; bare = map is_bare t.references; checks = t.checks } }
