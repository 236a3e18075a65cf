use Rattle.reports.proofs.Lines.{next, appended_chosen}
use Rattle.reports.proofs.Common.{is_named, student_line}
use Rattle.reports.proofs.students_report.students.Goals as goal

pub loop-student-preserved : goal.loop-student-preserved
loop-student-preserved c =
    let left = next c.students-student-items.result.now c.loop-student.student-index c.student-item.result c.loop-student-test.true c.student-item.is in
    appended_chosen student_line (is_named c.args.whom c.args.office.now c.args.round) _ _ _ _ _ _ left c.in_ok-push_student.ensures c.loop-student.invariant
