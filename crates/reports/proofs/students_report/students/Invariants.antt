use Rattle.std.proofs.Common.{◌≡◌, ◌++◌, drop, flat_map, filter, string_bytes}
use Rattle.reports.proofs.Common.{is_named, student_line}
use Rattle.reports.proofs.students_report.students.Given as goal

abbrev pub invariant-loop-student : goal.invariant-loop-student
invariant-loop-student l = string_bytes l.out ++ flat_map student_line (filter (is_named l.whom l.office l.round) (drop l.student-index l.student-items)) ≡ flat_map student_line (filter (is_named l.whom l.office l.round) (let o = l.office in o.students))
