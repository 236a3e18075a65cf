-- Why a request that changes the office fails, for another cause than running out of memory.
use Rattle.std.specs.Prelude.{ℕ, List, Option}
use Rattle.sqlite.specs.Effect.{Database}
use Rattle.schema.specs.declared.row.Change.{Change}
use Rattle.office_model.specs.declared.request.Request.{Request}
use Rattle.office_model.specs.State.{State}
use Rattle.office_model.specs.Rows.{Transforms}
use Rattle.desk.specs.layers.Changes.{MayChange}
use Rattle.store.specs.Causes.{IsHinderedAmong}
use Rattle.desk.specs.Keeping.{CarriesOut}

-- changes that the request may make, which transform the office into one that it makes of it and add rows of new keys alone, can't be saved
pub record IsHinderedToAsk (office : State) (request : Request) (limit : Option ℕ) (db : Database) : Type 0 where
  pub next : State
  pub carried : CarriesOut office request next
  pub changes : List Change
  pub may : MayChange office request changes
  pub transforms : Transforms changes office next
  pub hindered : IsHinderedAmong changes limit db
