-- Plain requests that were made one after another.
use Rattle.std.specs.Prelude.{◌≡◌, List, None}
use Rattle.office.specs.Common.{State, Transforms, rows_refusal, after_rows, changes_of_rows}
use Rattle.office_model.specs.declared.request.Plain.{Plain}
use Rattle.schema.specs.declared.row.Change.{Change}

-- none of them was refused, and these are their changes, which transform the rows
pub record AreMade (rows : List Plain) (old new : State) (changes : List Change) : Type 0 where
  pub allowed : rows_refusal 1 old rows ≡ None
  pub after : new ≡ after_rows rows old
  pub transforms : Transforms changes old new
  pub exact : changes ≡ changes_of_rows rows old
