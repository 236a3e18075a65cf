-- The entry that a row decodes to, where its cells have the form of one.
use Rattle.std.specs.Prelude.{◌==◌, ◌&&◌, ◌∷◌, if◌then◌else◌, ℕ, nat_le, Bool, true, false, List, [], length, Option, Some, None}
use Rattle.office.specs.from_rows.Common.{option_map, bytes_eq, MAX_QUOTA, is_code, is_label, Text, Number, Bytes, Cells, MAX_IMPORT_BYTES, Round, Placement}
use Rattle.spa.specs.declared.aim.Aim.{Aim}
use Rattle.spa.specs.declared.aim.Aim.TheVariants.{Greedy, Generous}
use Rattle.office_model.specs.declared.entries.Supervisor.{Supervisor}
use Rattle.office_model.specs.declared.entries.Project.{Project}
use Rattle.office_model.specs.declared.entries.Student.{Student}
use Rattle.office_model.specs.declared.rounds.RoundAim.{RoundAim}
use Rattle.office_model.specs.declared.import.Import.{Import}
use Rattle.office_model.specs.declared.import.ImportKind.{ImportKind}
use Rattle.office_model.specs.declared.import.ImportKind.TheVariants.{Supervisors, Projects, Students, Lists}
use Rattle.office_model.specs.Kinds.{word_of}

-- an entry, where it has the form
abbrev pub where_so : {E : Type 0} → Bool → E → Option E
where_so b e = if b then Some e else None

-- the truth value of a number
abbrev pub flag_in : ℕ → Option Bool
flag_in n = if n == 0 then Some false else (if n == 1 then Some true else None)

-- the aim of a truth value: whether it is the generous one
abbrev pub aim_of : Bool → Aim
aim_of b = if b then Generous else Greedy

-- the kind of imports of a word
abbrev pub kind_in : List ℕ → Option ImportKind
kind_in word =
    if bytes_eq word (word_of Supervisors) then Some Supervisors else
    (if bytes_eq word (word_of Projects) then Some Projects else
    (if bytes_eq word (word_of Students) then Some Students else
    (if bytes_eq word (word_of Lists) then Some Lists else None)))

-- the supervisor of a row
abbrev pub supervisor_in : Cells → Option Supervisor
supervisor_in (Text code ∷ Text label ∷ Number quota ∷ []) =
    where_so (is_code code && (is_label label && nat_le quota MAX_QUOTA)) (record { code = code; label = label; quota = quota })
supervisor_in _ = None

-- the project of a row
abbrev pub project_in : Cells → Option Project
project_in (Text code ∷ Text label ∷ Text supervisor ∷ Number quota ∷ []) =
    where_so (is_code code && (is_label label && (is_code supervisor && nat_le quota MAX_QUOTA)))
    (record { code = code; label = label; supervisor = supervisor; quota = quota })
project_in _ = None

-- the student of a row
abbrev pub student_in : Cells → Option Student
student_in (Text code ∷ Text label ∷ []) = where_so (is_code code && is_label label) (record { code = code; label = label })
student_in _ = None

-- the round of a row; its lists come later
abbrev pub round_in : Cells → Option Round
round_in (Number number ∷ Number k ∷ []) = option_map (λ is_open. record { number = number; is_open = is_open; lists = [] }) (flag_in k)
round_in _ = None

-- the aim of a round
abbrev pub aim_in : Cells → Option RoundAim
aim_in (Number round ∷ Number k ∷ []) = option_map (λ generous. record { round = round; aim = aim_of generous }) (flag_in k)
aim_in _ = None

-- the placement of a row
abbrev pub placement_in : Cells → Option Placement
placement_in (Text student ∷ Number round ∷ Text project ∷ Number rank ∷ []) =
    where_so (is_code student && is_code project) (record { student = student; round = round; project = project; rank = rank })
placement_in _ = None

-- the import of a kind
abbrev pub import_of : List ℕ → List ℕ → ℕ → Option ImportKind → Option Import
import_of id bytes rows None = None
import_of id bytes rows (Some kind) =
    where_so (is_code id && (nat_le (length bytes) MAX_IMPORT_BYTES && nat_le rows MAX_IMPORT_BYTES)) (record { id = id; kind = kind; bytes = bytes; rows = rows })

-- the import of a row
abbrev pub import_in : Cells → Option Import
import_in (Text id ∷ Text word ∷ Bytes bytes ∷ Number rows ∷ []) = import_of id bytes rows (kind_in word)
import_in _ = None
