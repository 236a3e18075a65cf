-- Who is placed at each project and what each supervisor offers, stored next to what students hold and the projects.
use Rattle.std.specs.Prelude.{◌≡◌, ℕ, ◌<◌, ◌≤◌, List, [], length, Option, Some, None, slice_get}
use Rattle.std.specs.Vec.{vec_capacity}
use Rattle.std.specs.declared.vec.Vec.{Vec}
use Rattle.std.specs.declared.alloc.Global.{Global}
use Rattle.network.specs.Inside.Push.{place_at, owner_at}
use Rattle.network.specs.Inside.Labels.{count_of}
use Rattle.network.specs.declared.flow.Flow.{Flow}
use Rattle.network.specs.declared.seating.Seating.{Seating}
use Rattle.network.specs.Inside.Arcs.{Rows}

-- the numbers of a list, none where there is no list
abbrev pub numbers_of : Option (Vec ℕ Global) → List ℕ
numbers_of None = []
numbers_of (Some v) = v.items

-- the list at a position
abbrev pub numbers_at : List (Vec ℕ Global) → ℕ → List ℕ
numbers_at lists n = numbers_of (slice_get lists n)

-- how many numbers a list has room for
abbrev pub room_of : Option (Vec ℕ Global) → ℕ
room_of None = 0
room_of (Some v) = vec_capacity v

-- the same of the list at a position
abbrev pub room_at : List (Vec ℕ Global) → ℕ → ℕ
room_at lists n = room_of (slice_get lists n)

-- the projects' lists have the room of before, and the supervisors' are the same
pub record HasSameRoom (old new : Seating) : Type 0 where
  pub room : (p : ℕ) → room_at new.seated.items p ≡ room_at old.seated.items p
  pub len : length new.seated.items ≡ length old.seated.items
  pub offered : new.offered ≡ old.offered

-- each student placed at a project stands once in the project's list, and nobody else; there is room for the quota
pub record AreSeated {G : Type 0} (lists : Rows G) (held : List (Option ℕ)) (projects : List (ℕ × ℕ)) (seated : List (Vec ℕ Global)) : Type 0 where
  pub one_each : length seated ≡ length projects
  pub students : (p s : ℕ) → p < length projects → count_of (numbers_at seated p) s ≡ place_at (slice_get held s) (slice_get lists s) p
  pub room : (p l q : ℕ) → slice_get projects p ≡ Some (l, q) → q ≤ room_at seated p

-- each project stands once in its supervisor's list, and nowhere else
pub record AreOffered (supervisors : List ℕ) (projects : List (ℕ × ℕ)) (offered : List (Vec ℕ Global)) : Type 0 where
  pub one_each : length offered ≡ length supervisors
  pub each : (l p : ℕ) → l < length supervisors → count_of (numbers_at offered l) p ≡ owner_at (slice_get projects p) l

-- both lists are right for the flow
pub record IsSeating {G : Type 0} (f : Flow G) (k : Seating) : Type 0 where
  pub seated : AreSeated f.lists.items f.held.items f.projects.items k.seated.items
  pub offered : AreOffered f.supervisors.items f.projects.items k.offered.items
