-- Reading a row as a generous aim does, and reading it once more, which gives the row again.
use Rattle.std.proofs.Common.{List, get_or}
use Rattle.std.specs.Prelude.{ℤ, pos}
use Rattle.spa.specs.declared.TheConstants.{COMPONENTS}
use Rattle.spa.specs.declared.aim.Aim.{Aim}
use Rattle.spa.specs.Order.{as_read}
use Rattle.spa.specs.Places.{Places, places_of}

-- the value of an array as an aim reads it
abbrev pub value_read : Aim → List ℤ → Places COMPONENTS
value_read aim xs = places_of COMPONENTS (as_read aim (λ t. get_or xs t (pos 0)))
