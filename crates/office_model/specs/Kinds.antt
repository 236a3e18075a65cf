-- The kinds of imports.
use Rattle.office_model.specs.Common.{ℕ, Bool, List, codes, bytes_eq, ImportKind}
use Rattle.office_model.specs.declared.import.ImportKind.TheVariants.{Supervisors, Projects, Students, Lists}

-- the word by which paths, commands and tables name a kind
abbrev pub word_of : ImportKind → List ℕ
word_of Supervisors = codes "supervisors"
word_of Projects = codes "projects"
word_of Students = codes "students"
word_of Lists = codes "lists"

-- whether two kinds are one
abbrev pub same_kind : ImportKind → ImportKind → Bool
same_kind k l = bytes_eq (word_of k) (word_of l)
