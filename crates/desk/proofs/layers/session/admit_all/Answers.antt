use Rattle.std.proofs.Common.{rules}
use Rattle.desk.proofs.layers.session.admit_all.Goals as goal

pub loop-student-init : goal.loop-student-init
loop-student-init c = search rules
