use Rattle.std.proofs.Common.{rules}
use Rattle.desk.proofs.desk.Desk.read.Goals as goal

pub returns-in-Preview-clause-step : goal.returns-in-Preview-clause-step
returns-in-Preview-clause-step g c = search rules depth 3

pub returns-in-Preview-clause-store : goal.returns-in-Preview-clause-store
returns-in-Preview-clause-store g c = search rules depth 3

pub returns-in-Preview-clause-storage : goal.returns-in-Preview-clause-storage
returns-in-Preview-clause-storage g c = search rules depth 3

pub returns-in-Preview-clause-at_once : goal.returns-in-Preview-clause-at_once
returns-in-Preview-clause-at_once g c = search rules depth 3

pub returns-in-Preview-clause-session : goal.returns-in-Preview-clause-session
returns-in-Preview-clause-session g c = search rules depth 3
