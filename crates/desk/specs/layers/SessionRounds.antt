-- A session that mirrors the open round: the round's rolls, and its lists admitted in some order.
use Rattle.std.specs.Prelude.{◌≡◌, ℕ, ◌+◌, ◌<◌, ◌≤◌, false, IsTrue, List, length, find, Option, None}
use Rattle.std.specs.Str.{bytes_eq}
use Rattle.spa.specs.Instance.{Instance, Student}
use Rattle.spa.specs.Named.{Named, IsFit as IsFitInstance, instance_of}
use Rattle.office_model.specs.State.{State, aim_of, last_round, round_is_open, has_list}
use Rattle.office_model.specs.Fit.{IsFit}
use Rattle.office_model.specs.Instances.{round_instance}
use Rattle.office_model.specs.Refusing.{plain_refusal}
use Rattle.office_model.specs.Stepping.{after_plain}
use Rattle.office_model.specs.declared.request.Plain.TheVariants.{PutList}
use Rattle.solver.specs.SessionState.{SessionState, with_list, most_relaxations}

-- the student with this code
abbrev pub student_in : Instance → List ℕ → Option Student
student_in l code = find (λ e. bytes_eq code e.code) l.students

-- two instances of one round: the same supervisors and projects, and as many students, of whom each code finds the same one
pub record IsSameRound (l m : Instance) : Type 0 where
  pub supervisors : l.supervisors ≡ m.supervisors
  pub projects : l.projects ≡ m.projects
  pub found : (code : List ℕ) → student_in l code ≡ student_in m code
  pub as_many : length l.students ≡ length m.students

-- a round is open, and the session has its instance by positions, with the students in some order, and its aim
pub record IsSessionOf (office : State) (session : SessionState) : Type 0 where
  pub is_open : IsTrue (round_is_open office)
  pub aim : session.aim ≡ aim_of office (last_round office)
  pub named : Named
  pub fit : IsFitInstance named
  pub here : named.shape ≡ session.shape
  pub same : IsSameRound (instance_of named) (round_instance office)

-- a student who has no list in the open round of a fit office puts one
pub record IsFirstList (old : State) (student : List ℕ) (new : State) : Type 0 where
  pub fit : IsFit old
  pub none_yet : has_list old (last_round old) student ≡ false
  pub choices : List (List ℕ)
  pub allowed : plain_refusal old (PutList student choices) ≡ None
  pub after : new ≡ after_plain (PutList student choices) old

-- the session mirrors the open round but for this student, whose first list was just put
pub record MayJoin (office : State) (session : SessionState) (student : List ℕ) : Type 0 where
  pub before : State
  pub sat : IsSessionOf before session
  pub put : IsFirstList before student office

-- one student more is admitted, which took one relaxation at least and at most what one admission may take
pub record IsOneMore (old new : SessionState) : Type 0 where
  pub list : List ℕ
  pub shape : new.shape ≡ with_list old.shape list
  pub more : old.steps < new.steps
  pub bound : new.steps ≤ old.steps + most_relaxations new.shape
