use Rattle.office.proofs.closing.PlacesAreRanks.{placed_step, no_step, few_so_far}
use Rattle.office.proofs.closing.keeping.placements_of.Goals as goal
use Rattle.office.proofs.closing.keeping.placements_of.Goals.{in-Some+in_ok-push, in_default}

pub loop-student-preserved : goal.loop-student-preserved
loop-student-preserved c =
    elim c.match-places-student.branch [
      | in-Some+in_ok-push w ↦
          rw w.placed-is (placed_step c.args.round c.args.lists.now c.args.places.now c.loop-student.student w.in-Some.place w.index-lists-student.result w.placed_at.result _ _ _ c.loop-student-test.true w.index-lists-student.is w.in-Some.is w.placed_at.ensures w.in_ok-push.ensures.items c.loop-student.invariant)
      | in_default w ↦ rw w.placed-is (no_step c.args.round c.args.lists.now c.args.places.now c.loop-student.student _ _ c.loop-student-test.true w.in_default.is c.loop-student.invariant)
    ]

pub returns-clause-few : goal.returns-clause-few
returns-clause-few c = few_so_far c.args.round c.args.lists.now c.args.places.now _ _ c.loop-student.invariant
