-- What a crash leaves of a task at a database.
use Rattle.std.specs.Prelude.{◌≡◌, ◌⊎◌, ℕ}
use Rattle.sqlite.specs.Held.{Held}
use Rattle.sqlite_trees.specs.declared.store.Store.{Ghosts}
use Rattle.office_model.specs.declared.request.Request.{Request}
use Rattle.office_model.specs.State.{State}
use Rattle.desk.specs.Keeping.{CarriesOut}
use Rattle.desk.specs.Laws.{IsOpenedAfter}
use Rattle.host.specs.WorldState.{PortState}
use Rattle.cli.specs.Databases.{IsDone, TakesTo}
use Rattle.cli.specs.declared.tasks.Task.{Task}

module _ {S : Type 0} (ghosts : Ghosts S) (ports : ℕ → PortState) where
  -- A task was done at a database. After a crash before its connection is closed the office is opened that all answers left, or one that
  -- one request makes of it: a change that was answered, on standard output or to a client, stays.
  abbrev pub TaskStays : Type 0
  TaskStays = (done : Task) (first last : Held S) (it : IsDone ghosts (TakesTo ghosts ports done) first last) (office : State) → IsOpenedAfter ghosts it.next office
      → (office ≡ it.next.office) ⊎ ((asked : Request) × CarriesOut it.next.office asked office)
