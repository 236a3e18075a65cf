use Rattle.std.proofs.Common.{ℕ, List, ◌<◌, ◌-◌, ◌^◌, arith, ◌∙◌, refl, sym, subst}
use Rattle.http_stream.proofs.Common.{length-drop, take_all, Appends}
use Rattle.http_stream.proofs.Known.{appends_part, appends_none}
use Rattle.http_stream.proofs.writing.write_all.Goals as goal

pub writing-preserved : goal.writing-preserved
writing-preserved g c = record {
  wrote = appends_part (g.W.Sink.written c.args.writer.now) (g.W.Sink.written c.writing.writer) (g.W.Sink.written c.write_some.new.writer)
      c.args.bytes.now c.writing.at c.in_ok-at.field-0 c.writing.invariant.wrote c.in_ok-at.ensures.ok;
  within = omega (arith, c.in_ok-at.ensures.range.1, length-drop c.writing.at c.args.bytes.now);
  count = c.in_ok-at.ensures.count_ok ∙ c.writing.invariant.count;
}

pub returns-clause-err : goal.returns-clause-err
returns-clause-err g c = tt

pub returns-clause-fault : goal.returns-clause-fault
returns-clause-fault g c = tt

pub returns-clause-count_err : goal.returns-clause-count_err
returns-clause-count_err g c = tt

pub writing-init : goal.writing-init
writing-init g c = record { wrote = appends_none (g.W.Sink.written c.args.writer.now); within = omega arith; count = refl }

pub write_some-requires : goal.write_some-requires
write_some-requires g c = subst (λ (n : ℕ). n < 2 ^ 64 - 1) (sym c.writing.invariant.count) c.requires

pub returns-clause-count_ok : goal.returns-clause-count_ok
returns-clause-count_ok g c = c.writing.invariant.count

pub returns-clause-ok : goal.returns-clause-ok
returns-clause-ok g c =
    subst (λ (bytes : List ℕ). Appends (g.W.Sink.written c.args.writer.now) (g.W.Sink.written c.writing.writer) bytes)
    (take_all c.writing.at c.args.bytes.now (omega (arith, c.writing-test.false))) c.writing.invariant.wrote
