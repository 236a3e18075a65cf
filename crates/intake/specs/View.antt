-- The parts that values of the code stand for.
use Rattle.std.specs.Prelude.{ℕ, List, [], map, Option, Some, None}
use denote.Ref.{Bor}
use Rattle.spa.specs.declared.aim.Aim.{Aim}
use Rattle.spa.specs.declared.matching.Matching.{Matching}
use Rattle.spa.specs.Named.{Named, instance_of}
use Rattle.verdict.specs.declared.prices.Prices.{Prices}
use Rattle.intake.specs.declared.round.RoundParts.{RoundParts}
use Rattle.intake.specs.Parts.{Parts}

-- an instance and an aim, with a matching and prices
abbrev pub proved : Named → Aim → List (Option ℕ) → Prices → Parts
proved i aim places prices = record {
  aim = aim;
  instance = instance_of i;
  places = places;
  student_prices = prices.students.items;
  project_prices = prices.projects.items;
  supervisor_prices = prices.supervisors.items;
}

-- an instance and an aim alone: no student has a place, and there are no prices
abbrev pub alone : Named → Aim → Parts
alone i aim = record {
  aim = aim;
  instance = instance_of i;
  places = map (λ e. None) i.shape.students;
  student_prices = [];
  project_prices = [];
  supervisor_prices = [];
}

-- what is to be written: an instance and an aim, alone or with a matching and prices
abbrev pub written : Named → Aim → Option (Bor Matching × Bor Prices) → Parts
written i aim None = alone i aim
written i aim (Some proof) = proved i aim proof.0.now.places.items proof.1.now

-- the parts that were read
abbrev pub parts_read : RoundParts → Parts
parts_read r = proved r.instance r.aim r.matching.places.items r.prices
