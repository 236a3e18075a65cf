-- What is counted of a fit office is small.
use Rattle.std.proofs.lemmas.List.Sums.{count_by-le-length}
use Rattle.office.proofs.Common.{MAX_STUDENTS, Placement, State, lists_of, IsFit, ℕ, ◌≤◌, arith, Bool, length, count_by}
use Rattle.office_model.proofs.NoMoreThanFound.{few_placed, few_lists}

pub placements_few : (o : State) → IsFit o → length o.placements ≤ MAX_STUDENTS
placements_few o fit = let few = few_placed o fit in omega (arith, few, fit.students.few)

pub counted_few : (o : State) → IsFit o → (p : Placement → Bool) → count_by p o.placements ≤ MAX_STUDENTS
counted_few o fit p = let some = count_by-le-length p o.placements in let few = placements_few o fit in omega (arith, some, few)

pub lists_few : (o : State) → IsFit o → (n : ℕ) → length (lists_of o n) ≤ MAX_STUDENTS
lists_few o fit n = let few = few_lists o fit n in omega (arith, few, fit.students.few)
