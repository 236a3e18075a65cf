-- What each request is judged by: in each list the first that applies.
use Rattle.std.specs.Prelude.{◌&&◌, ◌==◌, ◌∷◌, ◌++◌, if◌then◌else◌, ℕ, Bool, false, not, nat_lt, nat_le, List, [], length, Option, Some, None}
use Rattle.office_model.specs.Common.{list_any, option_map_or, bytes_eq, RANKS, MAX_SUPERVISORS, MAX_PROJECTS, MAX_STUDENTS, MAX_QUOTA, is_code, is_label, MAX_ROUNDS, MAX_IMPORTS, MAX_IMPORT_BYTES, ImportKind, Refusal, State, project_of, import_of, has_supervisor, has_project, has_student, has_round, has_list, has_import, is_placed, last_round, round_is_open, placed_in_project, placed_with_supervisor}
use Rattle.office_model.specs.Kinds.{same_kind}
use Rattle.office_model.specs.declared.refusal.Refusal.TheVariants as no

-- the first refusal whose condition holds
abbrev pub first : List (Bool × Refusal) → Option Refusal
first [] = None
first (c ∷ cs) = if c.0 then Some c.1 else first cs

-- a known project is put with another supervisor
abbrev pub is_moved : State → List ℕ → List ℕ → Bool
is_moved o code supervisor = option_map_or (λ p. not (bytes_eq supervisor p.supervisor)) (project_of o code) false

-- what a put of a supervisor is judged by
abbrev pub supervisor_tests : State → List ℕ → List ℕ → ℕ → List (Bool × Refusal)
supervisor_tests o code label quota =
    (not (is_code code), no.Code)
    ∷ (not (is_label label), no.Label)
    ∷ (nat_lt MAX_QUOTA quota, no.Quota)
    ∷ (nat_lt quota (placed_with_supervisor o code), no.BelowPlaced)
    ∷ (not (has_supervisor o code) && nat_le MAX_SUPERVISORS (length o.supervisors), no.RollFull)
    ∷ []

-- what a put of a project is judged by
abbrev pub project_tests : State → List ℕ → List ℕ → List ℕ → ℕ → List (Bool × Refusal)
project_tests o code label supervisor quota =
    (not (is_code code), no.Code)
    ∷ (not (is_code supervisor), no.Code)
    ∷ (not (is_label label), no.Label)
    ∷ (nat_lt MAX_QUOTA quota, no.Quota)
    ∷ (not (has_supervisor o supervisor), no.UnknownSupervisor)
    ∷ (is_moved o code supervisor, no.SupervisorFixed)
    ∷ (nat_lt quota (placed_in_project o code), no.BelowPlaced)
    ∷ (not (has_project o code) && nat_le MAX_PROJECTS (length o.projects), no.RollFull)
    ∷ []

-- what a put of a student is judged by
abbrev pub student_tests : State → List ℕ → List ℕ → List (Bool × Refusal)
student_tests o code label =
    (not (is_code code), no.Code)
    ∷ (not (is_label label), no.Label)
    ∷ (not (has_student o code) && nat_le MAX_STUDENTS (length o.students), no.RollFull)
    ∷ []

-- what an opening of a round is judged by
abbrev pub opening_tests : State → List (Bool × Refusal)
opening_tests o = (round_is_open o, no.RoundIsOpen) ∷ (nat_le MAX_ROUNDS (last_round o), no.RoundsFull) ∷ []

-- what the choices of a list are judged by, each in order, after those that stand before them
abbrev pub choice_tests : State → List (List ℕ) → List (List ℕ) → List (Bool × Refusal)
choice_tests o before [] = []
choice_tests o before (c ∷ choices) =
    (not (has_project o c), no.UnknownProject)
    ∷ (list_any (bytes_eq c) before, no.RepeatedProject)
    ∷ choice_tests o (before ++ c ∷ []) choices

-- what a put of a list is judged by
abbrev pub list_tests : State → List ℕ → List (List ℕ) → List (Bool × Refusal)
list_tests o student choices =
    (not (round_is_open o), no.NoRoundOpen)
    ∷ (not (has_student o student), no.UnknownStudent)
    ∷ (is_placed o student, no.AlreadyPlaced)
    ∷ (not (nat_le 1 (length choices) && nat_le (length choices) RANKS), no.ListLength)
    ∷ choice_tests o [] choices

-- what a drop of a list is judged by
abbrev pub drop_tests : State → List ℕ → List (Bool × Refusal)
drop_tests o student =
    (not (round_is_open o), no.NoRoundOpen)
    ∷ (not (has_student o student), no.UnknownStudent)
    ∷ (not (has_list o (last_round o) student), no.NoList)
    ∷ []

-- what a reopening is judged by
abbrev pub reopening_tests : State → List (Bool × Refusal)
reopening_tests o = (round_is_open o, no.RoundIsOpen) ∷ (last_round o == 0, no.NoRoundClosed) ∷ []

-- what a request for the open round is judged by
abbrev pub open_tests : State → List (Bool × Refusal)
open_tests o = (not (round_is_open o), no.NoRoundOpen) ∷ []

-- what a request for a round is judged by
abbrev pub round_tests : State → ℕ → List (Bool × Refusal)
round_tests o round = (not (has_round o round), no.UnknownRound) ∷ []

-- an import is stored under this id with another kind or other bytes
abbrev pub is_other_import : State → List ℕ → ImportKind → List ℕ → Bool
is_other_import o id kind bytes = option_map_or (λ i. not (same_kind kind i.kind && bytes_eq bytes i.bytes)) (import_of o id) false

-- what an import is judged by before its text is read
abbrev pub import_tests : State → List ℕ → ImportKind → List ℕ → List (Bool × Refusal)
import_tests o id kind bytes =
    (not (is_code id), no.Code)
    ∷ (nat_lt MAX_IMPORT_BYTES (length bytes), no.TooLarge)
    ∷ (is_other_import o id kind bytes, no.ImportIdUsed)
    ∷ (not (has_import o id) && nat_le MAX_IMPORTS (length o.imports), no.RollFull)
    ∷ []
