use Rattle.spa.proofs.Common.{MAX_PROJECTS, MAX_SUPERVISORS}
use Rattle.spa.proofs.OneMore.{none_yet}
use Rattle.spa.proofs.counts.Counts.new.Goals as goal

pub returns-clause-projects : goal.returns-clause-projects
returns-clause-projects c = none_yet MAX_PROJECTS

pub returns-clause-supervisors : goal.returns-clause-supervisors
returns-clause-supervisors c = none_yet MAX_SUPERVISORS
