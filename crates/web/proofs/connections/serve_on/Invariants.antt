use Rattle.std.proofs.Common.{◌≡◌, ◌≤◌, ℕ, ◌+◌}
use Rattle.host.specs.WorldState.{IsPeer}
use Rattle.web.specs.Connections.{AreServed}
use Rattle.web.specs.Serving.{AnswersFrom}
use Rattle.web.specs.declared.TheConstants.{MAX_UNACCEPTED}
use Rattle.web.proofs.connections.serve_on.Given as goal

abbrev pub invariant-loop-before : goal.invariant-loop-before
invariant-loop-before g l = record {
  served : AreServed (AnswersFrom g.S.Store) (g.D.Door.peers l.initial.door) l.initial.desk l.before l.unaccepted (g.O.Sink.written l.initial.out) (g.O.Sink.written l.out) l.desk;
  few : l.unaccepted ≤ MAX_UNACCEPTED;
  moved : (n : ℕ) → IsPeer (g.D.Door.peers l.door n) (g.D.Door.peers l.initial.door (n + l.before));
  writes : g.O.Sink.failures l.out ≡ g.O.Sink.failures l.initial.out;
}
