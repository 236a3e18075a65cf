use Rattle.std.proofs.Common.{refl}
use Rattle.desk.proofs.persistent.refusal_of_fault.Goals as goal

pub returns-in-Memory-clause-memory : goal.returns-in-Memory-clause-memory
returns-in-Memory-clause-memory c = λ _. refl
