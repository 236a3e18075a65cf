use Rattle.std.proofs.Common.{◌∙◌, arith}
use Rattle.solver.proofs.Common.{left_none, left_some}
use Rattle.solver.proofs.OneMoreStudent.{place_held}
use Rattle.solver.proofs.session.placed.Goals as goal
use Rattle.solver.proofs.session.placed.Goals.{in-Some, in_default}

pub loop-student-preserved : goal.loop-student-preserved
loop-student-preserved c =
    let it = place_held c.requires.0 c.args.network.now c.args.students c.loop-student.student c.place_of.result c.requires.1 c.requires.1.weighed.priced.matched.places.one_each c.loop-student-test.true c.place_of.ensures in
    let so_far = c.loop-student.invariant.so_far in
    let small = c.loop-student.invariant.small in
    elim c.match-place_of.branch [
      | in-Some w ↦ let r = left_some _ _ _ _ it.known it.held (it.here ∙ w.in-Some.is) in record { so_far = omega (arith, r, so_far, w.placed-is); small = omega (arith, small, w.placed-is) }
      | in_default w ↦ let r = left_none _ _ _ it.known it.held (it.here ∙ w.in_default.is) in record { so_far = omega (arith, r, so_far, w.placed-is); small = omega (arith, small, w.placed-is) }
    ]
