use Rattle.std.proofs.Common.{◌+◌, ◌≤◌, length, vec_len, IsTrue}
use Rattle.desk.proofs.Common.{vec_capacity, HasCleanDisk, Survives, state, MayRecoverTo, Begins, Keeps, StandsForOne}
use Rattle.desk.proofs.Runs.{HasRun, HasRunOn}
use Rattle.desk.proofs.desk.Desk.run.Given as goal

-- what was asked is answered by a run, over which the session goes on and of which a crash leaves some beginning, and each answer
-- has room
abbrev pub invariant-loop-request : goal.invariant-loop-request
invariant-loop-request g l = record {
  rest : HasRun l.fn.self.office l.fn.requests.items l.request-iterator.rest.items l.answers.items l.self.office;
  goes : HasRunOn l.fn.self.office l.fn.self.session l.fn.requests.items l.request-iterator.rest.items l.answers.items l.self.office l.self.session;
  tables : Keeps (state g.S.Store l.self.store) l.self.office;
  crash : Survives (state g.S.Store l.fn.self.store) (state g.S.Store l.self.store) (MayRecoverTo (λ _. StandsForOne (Begins l.fn.self.office l.fn.requests.items l.answers.items)) (state g.S.Store l.fn.self.store));
  shut : HasCleanDisk (state g.S.Store l.self.store) → IsTrue (state g.S.Store l.self.store).is_open → IsTrue (state g.S.Store l.fn.self.store).is_open;
  room : vec_len l.answers + length l.request-iterator.rest.items ≤ vec_capacity l.answers;
}
