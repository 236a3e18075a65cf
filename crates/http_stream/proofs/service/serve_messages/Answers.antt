use Rattle.std.proofs.Common.{◌≡◌, ◌<◌, ℕ, ◌+◌, ◌-◌, ◌^◌, List, [], Option, Some, IfSome, refl, sym, subst, arith}
use Rattle.http_stream.proofs.Common.{MAX_MESSAGES, End, Hundred, Served, MessageText, SoFar, ServedTo}
use Rattle.http_stream.proofs.Runs.{nothing_yet, hundred_here}
use Rattle.http_stream.proofs.ReaderEnd.{at_none}
use Rattle.http_stream.proofs.OneMessage.{same_read, same_write, last_read, last_written, ended, nothing_served}
use Rattle.http_stream.proofs.service.serve_messages.Goals as goal

-- at first nothing was read, asked or written
starts : {S : Type 0} (step : S → MessageText → List ℕ → S → Type 0) (before : S) (left w : Option (List ℕ)) (rest : List ℕ) → rest ≡ []
    → SoFar step before left w left w rest 0 before
starts step before left w rest e = subst (λ (t : List ℕ). SoFar step before left w left w t 0 before) (sym e) (nothing_yet step before left w)

pub loop-answered-init : goal.loop-answered-init
loop-answered-init g c = record {
  so_far = starts g.H.Handler.step c.args.desk.now (g.R.Source.left c.args.reader.now) (g.W.Sink.written c.args.writer.now) c.in-Ok.window c.in-Ok.ensures;
  reads = refl;
  goes_on = c.requires.open;
  writes = refl;
}

pub serve_next-requires-clause-write_failures : goal.serve_next-requires-clause-write_failures
serve_next-requires-clause-write_failures g c = subst (λ (n : ℕ). n < 2 ^ 64 - 1) (sym c.loop-answered.invariant.writes) c.requires.write_failures

pub returns-in-Err-clause-write_count : goal.returns-in-Err-clause-write_count
returns-in-Err-clause-write_count g c = same_write (Option End) Served c.in-Err.fault _ _ _ c.in-Err.ensures.write_count c.loop-answered.invariant.writes

pub returns-in-Err-clause-served : goal.returns-in-Err-clause-served
returns-in-Err-clause-served g c = record {
  served = tt;
  broken = c.in-Err.ensures.breaks.1 c.args.desk.now (g.R.Source.left c.args.reader.now) (g.W.Sink.written c.args.writer.now) c.loop-answered.answered
      c.loop-answered.invariant.so_far c.loop-answered-test.true;
  early = λ memory. absurd (c.in-Err.ensures.breaks.0 (cc));
}

-- what is said of an end that was found
at_end : (P : End → Type 0) (found : Option End) (end : End) → found ≡ Some end → IfSome found P → P end
at_end P found end e h = subst (λ (o : Option End). IfSome o P) e h

pub returns-in-Some-clause-served : goal.returns-in-Some-clause-served
returns-in-Some-clause-served g c =
    ended g.H.Handler.step g.H.Handler.refusal c.args.desk.now c.serve_next.new.desk c.loop-answered.desk (g.R.Source.left c.args.reader.now) (g.W.Sink.written c.args.writer.now)
    (g.R.Source.left c.loop-answered.reader) (g.R.Source.left c.serve_next.new.reader) (g.W.Sink.written c.loop-answered.writer) (g.W.Sink.written c.serve_next.new.writer)
    (g.W.Sink.written c.finish.new.writer)
    c.loop-answered.window c.serve_next.new.window c.loop-answered.answered c.in-Some.end c.finish.result
    c.loop-answered.invariant.so_far c.loop-answered-test.true
    (at_end _ c.in-Ok-serve_next.found c.in-Some.end c.in-Some.is c.in-Ok-serve_next.ensures.ends) c.finish.ensures.ok c.finish.ensures.wrote c.finish.ensures.fault c.finish.ensures.err

pub returns-in_default-clause-served : goal.returns-in_default-clause-served
returns-in_default-clause-served g c = nothing_served g.H.Handler.step g.H.Handler.refusal c.args.desk.now (g.R.Source.left c.args.reader.now) (g.W.Sink.written c.args.writer.now)

-- a hundred messages were answered
hundred : {S : Type 0} (step : S → MessageText → List ℕ → S → Type 0) (refusal : End → List ℕ) (before now : S) (left0 w0 left w : Option (List ℕ)) (rest : List ℕ) (count : ℕ)
    → SoFar step before left0 w0 left w rest count now → count ≡ MAX_MESSAGES → ServedTo step refusal before left0 w0 left w (record { answered = MAX_MESSAGES; end = Hundred }) now
hundred step refusal before now left0 w0 left w rest count so e =
    hundred_here step refusal before now left0 w0 left w rest (subst (λ (k : ℕ). SoFar step before left0 w0 left w rest k now) e so)

pub returns-clause-served : goal.returns-clause-served
returns-clause-served g c = record {
  served = hundred g.H.Handler.step g.H.Handler.refusal c.args.desk.now c.loop-answered.desk (g.R.Source.left c.args.reader.now) (g.W.Sink.written c.args.writer.now)
      (g.R.Source.left c.loop-answered.reader) (g.W.Sink.written c.loop-answered.writer) c.loop-answered.window c.loop-answered.answered
      c.loop-answered.invariant.so_far (omega (arith, c.loop-answered-test.false));
  broken = tt;
  early = λ memory. cc;
}

pub finish-requires-clause-few : goal.finish-requires-clause-few
finish-requires-clause-few g c = c.loop-answered-test.true

-- a count that grew by nothing stays
stays : (new old start : ℕ) → new ≡ old + 0 → old ≡ start → new ≡ start
stays new old start e h = omega arith

pub loop-answered-preserved : goal.loop-answered-preserved
loop-answered-preserved g c = record {
  so_far = (at_none _ c.in-Ok-serve_next.found c.in_default-found.is c.in-Ok-serve_next.ensures.answers).1 c.args.desk.now (g.R.Source.left c.args.reader.now) (g.W.Sink.written c.args.writer.now)
      c.loop-answered.answered c.loop-answered.invariant.so_far;
  goes_on = (at_none _ c.in-Ok-serve_next.found c.in_default-found.is c.in-Ok-serve_next.ensures.answers).0;
  reads = stays _ _ _ c.in-Ok-serve_next.ensures.read_count c.loop-answered.invariant.reads;
  writes = stays _ _ _ c.in-Ok-serve_next.ensures.write_count c.loop-answered.invariant.writes;
}

pub finish-requires-clause-failures : goal.finish-requires-clause-failures
finish-requires-clause-failures g c =
    subst (λ (n : ℕ). n < 2 ^ 64 - 1) (sym (stays _ _ _ c.in-Ok-serve_next.ensures.write_count c.loop-answered.invariant.writes)) c.requires.write_failures

pub returns-in-Some-clause-write_count : goal.returns-in-Some-clause-write_count
returns-in-Some-clause-write_count g c =
    last_written c.finish.result _ _ _ (stays _ _ _ c.in-Ok-serve_next.ensures.write_count c.loop-answered.invariant.writes) c.finish.ensures.fault c.finish.ensures.count_ok c.finish.ensures.count_err

pub returns-in-Err-clause-read_count : goal.returns-in-Err-clause-read_count
returns-in-Err-clause-read_count g c = same_read (Option End) Served c.in-Err.fault _ _ _ c.in-Err.ensures.read_count c.loop-answered.invariant.reads

pub returns-in-Some-clause-read_count : goal.returns-in-Some-clause-read_count
returns-in-Some-clause-read_count g c = last_read c.finish.result _ _ (stays _ _ _ c.in-Ok-serve_next.ensures.read_count c.loop-answered.invariant.reads) c.finish.ensures.fault

pub loop-answered-smaller : goal.loop-answered-smaller
loop-answered-smaller g c = omega (arith, c.loop-answered-test.true)
