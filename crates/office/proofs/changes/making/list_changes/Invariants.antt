use Rattle.office.proofs.changes.Common.{◌≡◌, suc, ◌++◌, drop}
use Rattle.office_model.specs.Making as spec
use Rattle.office.proofs.changes.making.list_changes.Given as goal

abbrev pub invariant-loop-place : goal.invariant-loop-place
invariant-loop-place l = l.changes.items ++ spec.choices_added l.round l.student (suc l.place) (drop l.place l.new) ≡ spec.list_changes l.round l.student l.has_list l.new
