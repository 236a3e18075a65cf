-- Which foreign keys act where rows of a table are taken out or replaced.
use Rattle.std.specs.Prelude.{◌≡◌, ◌≢◌, ◌⊎◌, ℕ, true, List}
use Rattle.sql_tables.specs.Common.{AnyTable as Table, NoAction, Reference, same_name, Has}

-- A foreign key acts on the table of this tree: some table of the schema refers to it by its name, and not with
-- NO ACTION both where rows are taken out and where they are replaced.
pub record IsActedOn (tables : List Table) (tree : ℕ) : Type 0 where
  pub child : Table
  pub reference : Reference
  pub parent : Table
  pub child_listed : Has tables child
  pub parent_listed : Has tables parent
  pub of_child : Has child.references reference
  pub to_parent : same_name parent.name reference.parent ≡ true
  pub here : parent.tree ≡ tree
  pub acts : (reference.on_delete ≢ NoAction) ⊎ (reference.on_update ≢ NoAction)
