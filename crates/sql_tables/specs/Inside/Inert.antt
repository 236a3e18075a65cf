-- For proofs alone. Which foreign keys act where rows of a table are taken out or replaced.
use Rattle.std.specs.Prelude.{◌&&◌, ◌||◌, ◌==◌, ℕ, Bool, true, false, not, List}
use Rattle.sql_tables.specs.Common.{list_all, list_any, AnyTable as Table, NoAction, Reference, same_name}
use Rattle.sqlite_schema.specs.declared.schema.Action.{Action}

-- a foreign key with NO ACTION, which is tested and writes nothing
abbrev pub is_passive : Action → Bool
is_passive NoAction = true
is_passive _ = false

-- the reference is to a table of this name, and this tree is one such
abbrev pub refers_to : List Table → ℕ → Reference → Bool
refers_to tables tree ref = list_any (λ t. same_name t.name ref.parent && (t.tree == tree)) tables

-- the reference does not act on the table of this tree
abbrev pub is_quiet : List Table → ℕ → Reference → Bool
is_quiet tables tree ref = (is_passive ref.on_delete && is_passive ref.on_update) || not (refers_to tables tree ref)

-- no reference of any table acts on the table of this tree
abbrev pub is_inert : List Table → ℕ → Bool
is_inert tables tree = list_all (λ t. list_all (is_quiet tables tree) t.references) tables
