use Rattle.std.proofs.Common.{◌≡◌, take}
use Rattle.desk.proofs.layers.session.admit_all.Given as goal

-- the first students are admitted
abbrev pub invariant-loop-student : goal.invariant-loop-student
invariant-loop-student l = record {
  admitted : l.session.shape ≡ record {
    supervisors = l.instance.shape.supervisors;
    projects = l.instance.shape.projects;
    students = take l.student l.instance.shape.students;
  };
  aim : l.session.aim ≡ l.fn.session.aim;
}
