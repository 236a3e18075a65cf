-- For proofs alone. What a session keeps: a network of the lists admitted, with the weights of their pairs as worths.
use Rattle.std.specs.Prelude.{◌≡◌, ℕ, ◌≤◌, length}
use Rattle.spa.specs.declared.TheConstants.{COMPONENTS, MAX_STUDENTS}
use Rattle.spa.specs.Shape.{IsSound}
use Rattle.spa.specs.declared.aim.Aim.{Aim}
use Rattle.spa.specs.Places.{Places}
use Rattle.network.specs.Seen.{Seen, shape_of}
use Rattle.solver.specs.Inside.Solved.{IsOf}

-- the network has weights as worths, as the aim reads them, its lists are those of an instance, and this many students were admitted
pub record IsNetworkKept (aim : Aim) (v : Seen (Places COMPONENTS)) (students : ℕ) : Type 0 where
  pub weighed : IsOf aim (shape_of v) v
  pub sound : IsSound (shape_of v)
  pub count : students ≡ length v.lists
  pub few : students ≤ MAX_STUDENTS
