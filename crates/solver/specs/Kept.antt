-- What a session keeps: a network of the lists admitted, with the weights of their pairs as worths.
use Rattle.spa.specs.declared.TheConstants.{COMPONENTS}
use Rattle.spa.specs.declared.aim.Aim.{Aim}
use Rattle.spa.specs.Places.{Places}
use Rattle.network.specs.Seen.{Seen, shape_of}
use Rattle.solver.specs.SessionState.{SessionState}

-- the value of a session with this aim and network
abbrev pub session_of : Aim → Seen (Places COMPONENTS) → SessionState
session_of aim v = record { aim = aim; shape = shape_of v; steps = v.steps }
