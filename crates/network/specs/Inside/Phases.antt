-- The three phases of a flow and of the residual network: between two admissions, searching, pushing. And what an admission asks and does.
use Rattle.std.specs.Prelude.{◌≡◌, ℕ, ◌+◌, ◌*◌, ◌^◌, ◌<◌, ◌≤◌, Bool, true, List, [], ◌∷◌, ◌++◌, length, slice_get, Some, None}
use Rattle.std.specs.Vec.{vec_len, vec_capacity}
use Rattle.spa.specs.declared.TheConstants.{MAX_STUDENTS, RANKS}
use Rattle.network.specs.declared.TheConstants.{MAX_ARCS, MAX_RELAXATIONS}
use Rattle.spa.specs.Laws.{Ops}
use Rattle.network.specs.Seen.{is_place}
use Rattle.network.specs.Inside.View.{IsKnownList}
use Rattle.network.specs.Inside.Arcs.{Row, IsFormed, project_count, sink_of, flow_arcs, StudentsAmong, ProjectsAmong}
use Rattle.network.specs.Inside.Fair.{AreStudentsFair, NodesFair, IsFair, IsLow}
use Rattle.network.specs.Inside.Marks.{is_seen, mark_at}
use Rattle.network.specs.Inside.Search.{iteration_or, IsFound}
use Rattle.network.specs.Inside.Labels.{AreLabels, AreBlank, MayCompare}
use Rattle.network.specs.Inside.Seating.{numbers_at, IsSeating}
use Rattle.network.specs.Inside.Push.{IsCounted, HasSteps}
use Rattle.network.specs.declared.flow.Flow.{Flow}
use Rattle.network.specs.declared.residual.Residual.{Residual}
use Rattle.network.specs.declared.marks.Labels.{Labels}
use Rattle.network.specs.declared.marks.Mark.{Mark}
use Rattle.network.specs.declared.marks.Origin.{Origin}

-- between two admissions: nobody waits, each place is counted, and the potentials are fair to all
pub record BetweenFlow {G : Type 0} (o : Ops G) (f : Flow G) : Type 0 where
  pub formed : IsFormed o f
  pub fair : IsFair o f (length f.lists.items) o.zero
  pub counted : IsCounted f (sink_of f)
  pub low : IsLow o f

-- searching: a student without a place was added, to whom alone the potentials may be unfair
pub record SearchingFlow {G : Type 0} (o : Ops G) (f : Flow G) (fresh : ℕ) : Type 0 where
  pub formed : IsFormed o f
  pub students : AreStudentsFair o f.lists.items f.held.items f.potentials.items fresh
  pub nodes : NodesFair o f
  pub counted : IsCounted f (sink_of f)
  pub low : IsLow o f
  pub waiting : slice_get f.held.items fresh ≡ Some None

-- pushing: the walk that was found is taken back as far as the node with the excess, and is worth `top` to the new student
pub record PushingFlow {G : Type 0} (o : Ops G) (f : Flow G) (marks : List (Mark G)) (fresh : ℕ) (top : G) (excess : ℕ) : Type 0 where
  pub formed : IsFormed o f
  pub fair : IsFair o f fresh top
  pub counted : IsCounted f excess
  pub low : IsLow o f
  pub waiting : slice_get f.held.items fresh ≡ Some None
  pub steps : HasSteps o f marks fresh top (length marks) excess
  pub seen : is_seen (mark_at o marks excess).origin ≡ true
  pub iterations : (b r : ℕ) → (mark_at o marks b).iteration ≡ Some r → (r < length marks) × (is_seen (mark_at o marks b).origin ≡ true)

-- the residual network between two admissions: the lists next to the flow are right
pub record BetweenResidual {G : Type 0} (o : Ops G) (r : Residual G) : Type 0 where
  pub flow : BetweenFlow o r.flow
  pub kept : IsSeating r.flow r.kept

-- the same, searching
pub record SearchingResidual {G : Type 0} (o : Ops G) (r : Residual G) (fresh : ℕ) : Type 0 where
  pub flow : SearchingFlow o r.flow fresh
  pub kept : IsSeating r.flow r.kept

-- the same, pushing for some student with some worth
pub record PushingResidual {G : Type 0} (o : Ops G) (r : Residual G) (marks : List (Mark G)) (excess : ℕ) : Type 0 where
  pub fresh : ℕ
  pub top : G
  pub flow : PushingFlow o r.flow marks fresh top excess
  pub kept : IsSeating r.flow r.kept

-- a search for the student may begin: the labels of the last one are gone, and this many may be compared
pub record MaySearch {G : Type 0} (o : Ops G) (r : Residual G) (l : Labels G) (fresh most : ℕ) : Type 0 where
  pub searching : SearchingResidual o r fresh
  pub blank : AreBlank o l (length r.flow.potentials.items)
  pub room : l.compared + most < 2 ^ 64

-- between two calls the labels of the last search are gone too, and few were compared
pub record BetweenCalls {G : Type 0} (o : Ops G) (r : Residual G) (l : Labels G) : Type 0 where
  pub residual : BetweenResidual o r
  pub blank : AreBlank o l (length r.flow.potentials.items)
  pub few : l.compared ≤ MAX_RELAXATIONS * length r.flow.lists.items

-- one step of a push: the next node with the excess was settled earlier
pub record IsNextExcess {G : Type 0} (o : Ops G) (f : Flow G) (marks : List (Mark G)) (fresh : ℕ) (top : G) (excess next : ℕ) : Type 0 where
  pub pushing : PushingFlow o f marks fresh top next
  pub falls : iteration_or (length marks) (mark_at o marks next).iteration < iteration_or (length marks) (mark_at o marks excess).iteration

-- the same, with the lists next to the flow
pub record IsStepOn {G : Type 0} (o : Ops G) (r : Residual G) (marks : List (Mark G)) (excess next : ℕ) : Type 0 where
  pub fresh : ℕ
  pub top : G
  pub step : IsNextExcess o r.flow marks fresh top excess next
  pub kept : IsSeating r.flow r.kept

-- the lists, the projects and the supervisors are the same: what students hold, the counts and the potentials may differ
abbrev pub HasSameRolls : {G : Type 0} → Flow G → Flow G → Type 0
HasSameRolls old new = new ≡ record old { held = new.held; filled = new.filled; load = new.load; potentials = new.potentials }

-- a list that may come in: there is room for it, it is short, and each entry names a known project
pub record MayEnter {G : Type 0} (o : Ops G) (f : Flow G) (row : Row G) : Type 0 where
  pub few : length f.lists.items < MAX_STUDENTS
  pub short : length row.items ≤ RANKS
  pub known : IsKnownList o (project_count f) row.items
  pub list_room : vec_len f.lists < vec_capacity f.lists
  pub held_room : vec_len f.held < vec_capacity f.held

-- a student came with this list and was given a place or not, after this many relaxations
pub record HasEntered {G : Type 0} (old new : Flow G) (row : Row G) (has_place : Bool) (relaxations : ℕ) : Type 0 where
  pub lists : new.lists.items ≡ old.lists.items ++ row ∷ []
  pub projects : new.projects.items ≡ old.projects.items
  pub supervisors : new.supervisors.items ≡ old.supervisors.items
  pub placed : has_place ≡ is_place (slice_get new.held.items (length old.lists.items))
  pub compared : length row.items ≤ relaxations
  pub cost : relaxations ≤ 2 * length row.items + 1 + sink_of new * flow_arcs new

-- the arcs out of a node with this label may be offered what the label makes of them
pub record MayExpand {G : Type 0} (o : Ops G) (r : Residual G) (l : Labels G) (label : G) : Type 0 where
  pub compare : MayCompare o r.flow l label 2 MAX_ARCS
  pub kept : IsSeating r.flow r.kept

-- the offers of all students who are placed at a project
abbrev pub OffersOfSeated : {G : Type 0} → Ops G → Residual G → ℕ → G → Origin → G → ℕ → Type 0
OffersOfSeated o r at label w x b = let students = numbers_at r.kept.seated.items at in StudentsAmong o r.flow at label students (length students) w x b

-- the offers of a supervisor to all of the supervisor's projects
abbrev pub OffersToOwn : {G : Type 0} → Ops G → Residual G → ℕ → G → Origin → G → ℕ → Type 0
OffersToOwn o r at label w x b = let projects = numbers_at r.kept.offered.items at in ProjectsAmong o r.flow at label projects (length projects) w x b

-- a search that found a best walk from the student to the sink
pub record HasFound {G : Type 0} (o : Ops G) (f : Flow G) (student : ℕ) (l : Labels G) : Type 0 where
  pub labels : AreLabels o l
  pub long : length l.marks.items ≡ length f.potentials.items
  pub found : IsFound o f student l.marks.items
