-- The kinds of imports: the header of each, and the request of a record.
use Rattle.std.specs.Prelude.{ℕ, List, [], ◌∷◌, codes}
use Rattle.std.specs.Option.{unwrap_or}
use Rattle.csv.specs.Records.{field_at}
use Rattle.office_model.specs.declared.import.ImportKind.{ImportKind}
use Rattle.office_model.specs.declared.import.ImportKind.TheVariants.{Supervisors, Projects, Students, Lists}
use Rattle.office_model.specs.declared.request.Plain.{Plain}
use Rattle.office_model.specs.declared.request.Plain.TheVariants.{PutSupervisor, PutProject, PutStudent, PutList}
use Rattle.import_csv.specs.Fields.{text_of, quota_of, choices_of}

-- the fields of a kind's first record
abbrev pub header_of : ImportKind → List (List ℕ)
header_of Supervisors = codes "code" ∷ codes "name" ∷ codes "quota" ∷ []
header_of Projects = codes "code" ∷ codes "name" ∷ codes "supervisor" ∷ codes "quota" ∷ []
header_of Students = codes "code" ∷ codes "name" ∷ []
header_of Lists = codes "student" ∷ codes "choices" ∷ []

-- the field at a place of a record, from 0; one that is not there is empty
abbrev pub field : List (List ℕ) → ℕ → List ℕ
field fields place = unwrap_or (field_at fields place) []

-- the request of a record
abbrev pub request_of : ImportKind → List (List ℕ) → Plain
request_of Supervisors r = PutSupervisor (text_of (field r 0)) (text_of (field r 1)) (quota_of (field r 2))
request_of Projects r = PutProject (text_of (field r 0)) (text_of (field r 1)) (text_of (field r 2)) (quota_of (field r 3))
request_of Students r = PutStudent (text_of (field r 0)) (text_of (field r 1))
request_of Lists r = PutList (text_of (field r 0)) (choices_of (text_of (field r 1)))
