use Rattle.std.proofs.Common.{ap, length}
use Rattle.rule_tests.proofs.admissions.Trial.start.Goals as goal

pub invariant_of-result : goal.invariant_of-result
invariant_of-result g c = (ap length c.in_ok-network.ensures.new.projects, ap length c.in_ok-network.ensures.new.lists)
