use Rattle.std.proofs.Common.{◌≡◌, ◌∙◌, ℕ, ◌+◌, List, slice_range, ap, subst, sym, arith, add-zero}
use Rattle.http_stream.proofs.Common.{span_bytes, MessageText, Parts, Appends, answer_bytes, said_at}
use Rattle.http_stream.proofs.service.serve_one.Goals as goal

-- what the parts of these bytes say
says : (xs ys method target : List ℕ) (p : Parts) → xs ≡ ys → method ≡ span_bytes xs p.method → target ≡ span_bytes xs p.target
    → record { method = method; target = target; body = slice_range xs p.head (p.head + p.body) } ≡ said_at ys p
says xs ys method target p same of_method of_target = λ i. record {
  method = (of_method ∙ ap (λ (b : List ℕ). span_bytes b p.method) same) i;
  target = (of_target ∙ ap (λ (b : List ℕ). span_bytes b p.target) same) i;
  body = slice_range (same i) p.head (p.head + p.body);
}

pub returns-clause-ok : goal.returns-clause-ok
returns-clause-ok g c = (
  answer_bytes c.answer-answer.result,
  subst (λ (said : MessageText). g.H.Handler.step c.args.desk.now said (answer_bytes c.answer-answer.result) c.answer-answer.new.desk)
      (says _ _ _ _ c.args.parts c.bytes-bytes.ensures c.of.ensures c.of-2.ensures) c.answer-answer.ensures.step,
  subst (Appends (g.W.Sink.written c.args.writer.now) (g.W.Sink.written c.write_all.new.writer)) c.as_slice.ensures c.in_ok-write_all.ensures.ok,
)

pub returns-clause-count : goal.returns-clause-count
returns-clause-count g c = c.in_ok-write_all.ensures.count_ok ∙ sym (add-zero _)

pub returns-clause-err : goal.returns-clause-err
returns-clause-err g c = tt

pub returns-clause-fault : goal.returns-clause-fault
returns-clause-fault g c = tt

pub write_all-requires : goal.write_all-requires
write_all-requires g c = c.requires.failures

pub drop_front-requires : goal.drop_front-requires
drop_front-requires g c = let known = c.requires.parts in omega (arith, known.1.fits)

pub returns-clause-taken : goal.returns-clause-taken
returns-clause-taken g c = c.drop_front.ensures
