use Rattle.std.proofs.Common.{◌≡◌, take}
use Rattle.rule_tests.proofs.sessions.session_of.Given as goal

abbrev pub invariant-loop-student : goal.invariant-loop-student
invariant-loop-student l = record {
  supervisors : l.session.shape.supervisors ≡ l.instance.shape.supervisors;
  projects : l.session.shape.projects ≡ l.instance.shape.projects;
  students : l.session.shape.students ≡ take l.student l.instance.shape.students;
}
