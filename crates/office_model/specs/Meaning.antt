-- What each plain request means, in one place.
use Rattle.std.specs.Prelude.{◌+◌, ◌∷◌, Bool, true, false, not, List, [], length, Option, Some}
use Rattle.office_model.specs.Common.{option_map, Refusal, Reply, Plain, PutSupervisor, PutProject, PutStudent, OpenRound, PutList, DropList, ReopenRound, GetSupervisor, GetProject, GetStudent, GetRound, of_code, put, take_out, State, supervisor_key, project_key, student_key, list_key, supervisor_of, project_of, student_of, aim_of, placement_of, has_supervisor, has_project, has_student, last_round, is_open, lists_of, open_choices, placed_in_project, placed_with_supervisor, placed_in_round, placed_at_rank}
use Rattle.office_model.specs.declared.refusal.Refusal.TheVariants as no
use Rattle.office_model.specs.declared.request.Reply.TheVariants as reply
use Rattle.office_model.specs.Tests.{supervisor_tests, project_tests, student_tests, opening_tests, list_tests, drop_tests, reopening_tests, round_tests}
use Rattle.office_model.specs.Moves.{with_last, after_opening, after_reopening, by_rank}

-- A request's meaning: its tests in order, the office after it, its reply, and whether it only reads. A look-up of an unknown code has no
-- reply, and is refused before.
pub record Meaning : Type 0 where
  pub tests : State → List (Bool × Refusal)
  pub after : State → State
  pub reply : State → Option Reply
  pub reads : Bool

-- the meaning of a request that may change the office
abbrev pub changing : (State → List (Bool × Refusal)) → (State → State) → (State → Reply) → Meaning
changing tests after reply = record { tests = tests; after = after; reply = λ o. Some (reply o); reads = false }

-- the meaning of a request that only reads: the office stays as it is
abbrev pub reading : (State → List (Bool × Refusal)) → (State → Option Reply) → Meaning
reading tests reply = record { tests = tests; after = λ o. o; reply = reply; reads = true }

-- each request's; a put makes its key's entry the request's value
abbrev pub meaning : Plain → Meaning
meaning (PutSupervisor code label quota) =
    changing
    (λ o. supervisor_tests o code label quota)
    (λ o. record o { supervisors = put supervisor_key (record { code = code; label = label; quota = quota }) o.supervisors })
    (λ o. reply.Done)
meaning (PutProject code label supervisor quota) =
    changing
    (λ o. project_tests o code label supervisor quota)
    (λ o. record o { projects = put project_key (record { code = code; label = label; supervisor = supervisor; quota = quota }) o.projects })
    (λ o. reply.Done)
meaning (PutStudent code label) =
    changing
    (λ o. student_tests o code label)
    (λ o. record o { students = put student_key (record { code = code; label = label }) o.students })
    (λ o. reply.Done)
meaning (OpenRound aim) =
    changing opening_tests (after_opening aim) (λ o. reply.Opened (last_round o + 1))
meaning (PutList student choices) =
    changing
    (λ o. list_tests o student choices)
    (with_last (λ r. record r { lists = put list_key (record { student = student; choices = choices }) r.lists }))
    (λ o. reply.Done)
meaning (DropList student) =
    changing
    (λ o. drop_tests o student)
    (with_last (λ r. record r { lists = take_out list_key (of_code student) r.lists }))
    (λ o. reply.Done)
meaning ReopenRound =
    changing reopening_tests after_reopening (λ o. reply.Opened (last_round o))
meaning (GetSupervisor code) =
    reading
    (λ o. (not (has_supervisor o code), no.UnknownSupervisor) ∷ [])
    (λ o. option_map (λ s. reply.Supervisor s.label (placed_with_supervisor o code) s.quota) (supervisor_of o code))
meaning (GetProject code) =
    reading
    (λ o. (not (has_project o code), no.UnknownProject) ∷ [])
    (λ o. option_map (λ p. reply.Project p.label (placed_in_project o code) p.quota p.supervisor) (project_of o code))
meaning (GetStudent code) =
    reading
    (λ o. (not (has_student o code), no.UnknownStudent) ∷ [])
    (λ o. option_map (λ s. reply.Student s.label (open_choices o code) (placement_of o code)) (student_of o code))
meaning (GetRound round) =
    reading
    (λ o. round_tests o round)
    (λ o. Some (reply.Round round (aim_of o round) (is_open o round) (placed_in_round o round) (by_rank (λ k. placed_at_rank o round (k + 1))) (length (lists_of o round))))
