use Rattle.std.proofs.Common.{Ok, Err, refl, arith}
use Rattle.http_stream.specs.Answers.{answer_bytes}
use Rattle.web.proofs.OneMessage.{answered_from, gets_at}
use Rattle.web.proofs.service.OfficeHandlerHandlerDesk.answer.Goals as goal

pub returns-in-Err : goal.returns-in-Err
returns-in-Err g c = record {
  step = record { read = Err c.in-Err.refusal; is_read = c.in-Err.ensures; answers = (c.refusal_answer.ensures, refl); clean = λ clean. clean };
}

pub returns-in-Ok : goal.returns-in-Ok
returns-in-Ok g c = record {
  step = record {
    read = Ok c.in-Ok.request;
    is_read = c.in-Ok.ensures;
    answers = answered_from g.S.Store c.args.desk.now c.ask-answer.new.self (answer_bytes c.answer_of.result) c.in-Ok.request c.ask-answer.result
        (gets_at g.S.Store c.args.desk.now c.ask-answer.new.self c.in-Ok.request c.ask-answer.result c.ask-answer.ensures.step c.ask-answer.ensures.at_once c.ask-answer.ensures.session c.ask-answer.ensures.saved
        c.ask-answer.ensures.in_order)
        c.answer_of.ensures;
    clean = λ clean. omega (arith, clean, c.ask-answer.ensures.saved.crash.clean);
  };
}
