-- The texts of the reports on a round: lines of bytes, each ended by 10.
use Rattle.std.specs.Prelude.{ℕ, ◌-◌, min, ◌==◌, Bool, ◌&&◌, not, false, List, [], ◌∷◌, ◌++◌, length, filter, flat_map, replicate, codes, decimal, if◌then◌else◌}
use Rattle.std.specs.Option.{option_map_or}
use Rattle.std.specs.List.{range_with_len}
use Rattle.std.specs.Str.{bytes_eq}
use Rattle.spa.specs.declared.TheConstants.{RANKS}
use Rattle.office_model.specs.declared.entries.Supervisor.{Supervisor}
use Rattle.office_model.specs.declared.entries.Project.{Project}
use Rattle.office_model.specs.declared.entries.Student.{Student}
use Rattle.office_model.specs.declared.rounds.Placement.{Placement}
use Rattle.office_model.specs.declared.report.ReportKind.{ReportKind}
use Rattle.office_model.specs.declared.report.ReportKind.TheVariants.{Profile, Loads, Unplaced, Placements, Offers, Missing, Text}
use Rattle.office_model.specs.State.{State, aim_of, placement_of, is_open, is_placed_before, lists_of, has_list, placed_in_project_by, placed_with_supervisor_by, placed_in_round, placed_at_rank}
use Rattle.office_model.specs.Instances.{instance_of_round}
use Rattle.intake.specs.Lines.{instance_text}

-- a text, and spaces after it up to a width; a longer text stays as it is
abbrev pub left : ℕ → List ℕ → List ℕ
left width text = text ++ replicate (width - length text) 32

-- the digits of a number, and spaces before them up to a width
abbrev pub right : ℕ → ℕ → List ℕ
right width n = replicate (width - length (decimal n)) 32 ++ decimal n

-- a line of profile: a name, and how many
abbrev pub count_row : List ℕ → ℕ → List ℕ
count_row name count = left 8 name ++ right 5 count ++ 10 ∷ []

-- the line of a rank: how many students the round placed at it
abbrev pub rank_row : State → ℕ → ℕ → List ℕ
rank_row o n rank = count_row (codes "RANK " ++ decimal rank) (placed_at_rank o n rank)

-- the word for a round that is open, or else closed
abbrev pub state_word : State → ℕ → List ℕ
state_word o n = if is_open o n then codes "open" else codes "closed"

-- `profile`: a round with its state, how many students have lists in it, are placed by it, and are placed at each rank; a round
-- that is not known is reported as closed and empty
abbrev pub profile_text : State → ℕ → List ℕ
profile_text o n =
    left 8 (codes "ROUND") ++ right 5 n ++ 32 ∷ state_word o n ++ 10 ∷ count_row (codes "STUDENTS") (length (lists_of o n)) ++ count_row (codes "PLACED") (placed_in_round o n)
    ++ flat_map (rank_row o n) (range_with_len 1 RANKS)

-- a line of loads: a code in a width, how many are placed, and the quota
abbrev pub load_row : ℕ → List ℕ → ℕ → ℕ → List ℕ
load_row width code placed quota = left width code ++ right 5 placed ++ right 5 quota ++ 10 ∷ []

-- the load of a project, indented
abbrev pub project_line : State → ℕ → Project → List ℕ
project_line o n p = 32 ∷ 32 ∷ load_row 16 p.code (placed_in_project_by o n p.code) p.quota

-- the loads of the projects that a supervisor offers
abbrev pub offered_rows : State → ℕ → List ℕ → List ℕ
offered_rows o n supervisor = flat_map (project_line o n) (filter (λ p. bytes_eq supervisor p.supervisor) o.projects)

-- the load of a supervisor, and those of the projects
abbrev pub supervisor_rows : State → ℕ → Supervisor → List ℕ
supervisor_rows o n s = load_row 18 s.code (placed_with_supervisor_by o n s.code) s.quota ++ offered_rows o n s.code

-- `loads`: what the rounds 1 to n placed with each supervisor and in each project, and the quotas of the rolls
abbrev pub loads_text : State → ℕ → List ℕ
loads_text o n = flat_map (supervisor_rows o n) o.supervisors

-- how many places a project could still give after the rounds 1 to n: no more than are left with its supervisor
abbrev pub places_left : State → ℕ → Supervisor → Project → ℕ
places_left o n s p = min (p.quota - placed_in_project_by o n p.code) (s.quota - placed_with_supervisor_by o n s.code)

-- a project with its places, the supervisor's code and name, and the title; 9 is the tabulator, which no name has
abbrev pub offer_line : State → ℕ → Supervisor → Project → List ℕ
offer_line o n s p = left 16 p.code ++ right 5 (places_left o n s p) ++ 32 ∷ left 16 s.code ++ 32 ∷ s.label ++ 9 ∷ p.label ++ 10 ∷ []

-- the projects of a supervisor
abbrev pub offers_of : State → ℕ → Supervisor → List ℕ
offers_of o n s = flat_map (offer_line o n s) (filter (λ p. bytes_eq s.code p.supervisor) o.projects)

-- `offers`: the projects of each supervisor, with the places that the rounds before n left
abbrev pub offers_text : State → ℕ → List ℕ
offers_text o n = flat_map (offers_of o (n - 1)) o.supervisors

-- whether the round n placed a student
abbrev pub is_placed_by : State → ℕ → List ℕ → Bool
is_placed_by o n student = option_map_or (λ p. p.round == n) (placement_of o student) false

-- whether a student has a list in the round n, which did not place the student
abbrev pub is_unplaced : State → ℕ → Student → Bool
is_unplaced o n s = has_list o n s.code && not (is_placed_by o n s.code)

-- a student with the label
abbrev pub student_line : Student → List ℕ
student_line s = left 16 s.code ++ 32 ∷ s.label ++ 10 ∷ []

-- `unplaced`: the students with lists in the round n whom it did not place
abbrev pub unplaced_text : State → ℕ → List ℕ
unplaced_text o n = flat_map student_line (filter (is_unplaced o n) o.students)

-- whether a student has no list in the round n, and no round before it placed the student
abbrev pub is_missing : State → ℕ → Student → Bool
is_missing o n s = not (has_list o n s.code) && not (is_placed_before o s.code n)

-- `missing`: the students who could have a list in the round n and have none
abbrev pub missing_text : State → ℕ → List ℕ
missing_text o n = flat_map student_line (filter (is_missing o n) o.students)

-- a student with the project and its rank
abbrev pub placement_line : Placement → List ℕ
placement_line p = left 16 p.student ++ 32 ∷ left 16 p.project ++ 32 ∷ right 2 p.rank ++ 10 ∷ []

-- `placements`: whom the round n placed
abbrev pub placements_text : State → ℕ → List ℕ
placements_text o n = flat_map placement_line (filter (λ p. p.round == n) o.placements)

-- the text of a report on the round n
abbrev pub report_text : State → ReportKind → ℕ → List ℕ
report_text o Profile n = profile_text o n
report_text o Loads n = loads_text o n
report_text o Unplaced n = unplaced_text o n
report_text o Placements n = placements_text o n
report_text o Offers n = offers_text o n
report_text o Missing n = missing_text o n
report_text o Text n = instance_text (aim_of o n) (instance_of_round o n)
