-- The changes of the tables that a request may make of an office.
use Rattle.std.specs.Prelude.{◌≡◌, List, [], Ok}
use Rattle.spa.specs.Coded.{CodePair}
use Rattle.office_model.specs.State.{State, aim_of, last_round}
use Rattle.office_model.specs.Instances.{round_instance}
use Rattle.office_model.specs.Closing.{MayClose}
use Rattle.schema.specs.declared.row.Change.{Change}
use Rattle.office_model.specs.declared.request.Plain.{Plain}
use Rattle.office_model.specs.declared.request.Request.{Request}
use Rattle.office_model.specs.declared.request.Request.TheVariants as request
use Rattle.office_model.specs.Making.{changes_of}
use Rattle.office.specs.changes.Changes.{import_changes}
use Rattle.office.specs.closing.Changes.{close_changes}
use Rattle.desk.specs.layers.Layers.{layers}

-- A request may make these changes of an office. Those of a plain request are its own, those of a closing are of some matching that may
-- be taken, and those of an import are of the requests that its text's records stand for. Any other request makes none.
abbrev pub MayChange : State → Request → List Change → Type 0
MayChange o (request.Plain p) changes = changes ≡ changes_of p o
MayChange o request.Close changes = (M : List CodePair) × MayClose o M × layers.MayTake (aim_of o (last_round o)) (round_instance o) M × (changes ≡ close_changes M o)
MayChange o (request.Import id kind bytes) changes = (rows : List Plain) × (layers.records kind bytes ≡ Ok rows) × (changes ≡ import_changes id kind bytes rows o)
MayChange o request.Preview changes = changes ≡ []
MayChange o request.RoundText changes = changes ≡ []
MayChange o (request.Report kind round) changes = changes ≡ []
