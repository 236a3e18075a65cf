-- The instance of a round.
use Rattle.std.specs.Prelude.{◌-◌, ℕ, List, map}
use Rattle.office_model.specs.Common.{Instance, State, last_round, lists_of, placed_in_project, placed_in_project_by, placed_with_supervisor, placed_with_supervisor_by}

-- All supervisors and projects, with their quotas less the places that are taken, and the students with a list in the round n.
abbrev pub instance_left : (List ℕ → ℕ) → (List ℕ → ℕ) → State → ℕ → Instance
instance_left with_supervisor in_project o n = record {
  supervisors = map (λ s. record { code = s.code; quota = s.quota - with_supervisor s.code }) o.supervisors;
  projects = map (λ p. record { code = p.code; supervisor = p.supervisor; quota = p.quota - in_project p.code }) o.projects;
  students = map (λ l. record { code = l.student; list = l.choices }) (lists_of o n);
}

-- The instance of the last round, where all placements are taken. An open round has placed nobody, so these are the placements of
-- earlier rounds.
abbrev pub round_instance : State → Instance
round_instance o = instance_left (placed_with_supervisor o) (placed_in_project o) o (last_round o)

-- The instance of the round n, open or closed: what the rounds before it placed is taken.
abbrev pub instance_of_round : State → ℕ → Instance
instance_of_round o n = instance_left (placed_with_supervisor_by o (n - 1)) (placed_in_project_by o (n - 1)) o n
