use Rattle.std.proofs.Common.{◌∙◌, arith, inl, refl, rules}
use Rattle.web.specs.Serving.{AnswersFrom}
use Rattle.web.proofs.OneConnection.{at_fault, connects_seen, here, moves, next_few, one_cut, one_more}
use Rattle.web.proofs.connections.serve_on.Goals as goal

pub loop-before-preserved : goal.loop-before-preserved
loop-before-preserved g c = record {
  served = rw c.next_row-unaccepted.ensures (one_more (AnswersFrom g.S.Store) (g.D.Door.peers c.args.door.now) _ _ _ c.loop-before.before c.loop-before.unaccepted _ _ _ c.serve_connection-visit.result (omega (arith, c.loop-before.invariant.few, c.if-unaccepted-eq-MAX_UNACCEPTED.false)) c.loop-before.invariant.served
      (connects_seen (λ d. d) _ (AnswersFrom g.S.Store) (λ b words bytes a step. step) (g.D.Door.peers c.loop-before.door 0) (g.D.Door.peers c.args.door.now c.loop-before.before) (here (g.D.Door.peers c.args.door.now) (g.D.Door.peers c.loop-before.door) c.loop-before.before c.loop-before.invariant.moved) _ _ _ c.serve_connection-visit.ensures.served)
      c.in_ok-write_line.ensures.ok);
  few = rw c.next_row-unaccepted.ensures (next_few c.loop-before.unaccepted c.serve_connection-visit.result (omega (arith, c.loop-before.invariant.few, c.if-unaccepted-eq-MAX_UNACCEPTED.false)));
  moved = moves (g.D.Door.peers c.args.door.now) (g.D.Door.peers c.loop-before.door) (g.D.Door.peers c.serve_connection-visit.new.door) c.loop-before.before c.loop-before.invariant.moved c.serve_connection-visit.ensures.next;
  writes = c.in_ok-write_line.ensures.count_ok ∙ c.loop-before.invariant.writes;
}

pub returns-in_err-write_line-clause-broken : goal.returns-in_err-write_line-clause-broken
returns-in_err-write_line-clause-broken g c =
    at_fault c.from_residual.result
    (one_cut (AnswersFrom g.S.Store) (g.D.Door.peers c.args.door.now) _ _ _ c.loop-before.before c.loop-before.unaccepted c.args.count _ _ _ c.serve_connection-visit.result c.loop-before-test.true (omega (arith, c.loop-before.invariant.few, c.if-unaccepted-eq-MAX_UNACCEPTED.false)) c.loop-before.invariant.served
    (connects_seen (λ d. d) _ (AnswersFrom g.S.Store) (λ b words bytes a step. step) (g.D.Door.peers c.loop-before.door 0) (g.D.Door.peers c.args.door.now c.loop-before.before) (here (g.D.Door.peers c.args.door.now) (g.D.Door.peers c.loop-before.door) c.loop-before.before c.loop-before.invariant.moved) _ _ _ c.serve_connection-visit.ensures.served)
    c.in_err-write_line.ensures.err)

pub loop-before-init : goal.loop-before-init
loop-before-init g c = search rules

pub returns-clause-served : goal.returns-clause-served
returns-clause-served g c = record { row = c.loop-before.unaccepted; are = search rules; ends = inl refl }
