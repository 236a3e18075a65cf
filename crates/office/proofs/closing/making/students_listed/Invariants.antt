use Rattle.office.proofs.closing.Common.{student_listed, ◌≡◌, ◌++◌, map, drop}
use Rattle.office.proofs.closing.making.students_listed.Given as goal

abbrev pub invariant-loop-listed : goal.invariant-loop-listed
invariant-loop-listed l = map (λ e. (e.0, e.1.items)) l.roll.items ++ map student_listed (drop l.listed-index l.lists) ≡ map student_listed l.lists
