-- Finite tests of what was taken in: whether it goes together as an office.
use Rattle.std.specs.Prelude.{◌-◌, ◌&&◌, ℕ, nat_le, Bool, false, not, length, slice_get}
use Rattle.office.specs.from_rows.Common.{list_all, option_map_or, bytes_eq, MAX_SUPERVISORS, MAX_PROJECTS, MAX_STUDENTS, RANKS, MAX_ROUNDS, MAX_IMPORTS, Listed, Placement, State, has_supervisor, has_project, has_student, is_placed_before, is_closed, choices_in, placed_in_project, placed_with_supervisor, are_aimed, are_numbered, only_last_open, is_distinct}

-- nothing is too long
abbrev pub are_few : State → Bool
are_few o =
    nat_le (length o.supervisors) MAX_SUPERVISORS && (nat_le (length o.projects) MAX_PROJECTS && (nat_le (length o.students) MAX_STUDENTS
    && (nat_le (length o.rounds) MAX_ROUNDS && (nat_le (length o.placements) MAX_STUDENTS && nat_le (length o.imports) MAX_IMPORTS))))

-- the supervisor of each project is on the roll
abbrev pub are_offered : State → Bool
are_offered o = list_all (λ p. has_supervisor o p.supervisor) o.projects

-- a list of projects on the roll, no more than there are ranks, none of them twice, of a student on the roll whom no earlier round placed
abbrev pub is_list : State → ℕ → Listed → Bool
is_list o n l =
    has_student o l.student && (not (is_placed_before o l.student n) && (nat_le (length l.choices) RANKS
    && (is_distinct l.choices && list_all (has_project o) l.choices)))

-- the rounds have the numbers from 1 on, each has an aim, all but the last are closed, and each list is one of its round
abbrev pub are_rounds : State → Bool
are_rounds o =
    are_numbered 1 o.rounds && (are_aimed o.aims o.rounds && (only_last_open o.rounds && list_all (λ r. list_all (is_list o r.number) r.lists) o.rounds))

-- a placement by a closed round, of a project that stands at the rank in the student's list of that round
abbrev pub is_placement : State → Placement → Bool
is_placement o p =
    is_closed o p.round && (nat_le 1 p.rank && option_map_or (bytes_eq p.project) (slice_get (choices_in o p.round p.student) (p.rank - 1)) false)

-- no project and no supervisor has more students than the quota
abbrev pub are_within : State → Bool
are_within o =
    list_all (λ p. nat_le (placed_in_project o p.code) p.quota) o.projects && list_all (λ s. nat_le (placed_with_supervisor o s.code) s.quota) o.supervisors

-- all of it goes together
abbrev pub is_whole : State → Bool
is_whole o = are_few o && (are_offered o && (are_rounds o && (list_all (is_placement o) o.placements && are_within o)))
