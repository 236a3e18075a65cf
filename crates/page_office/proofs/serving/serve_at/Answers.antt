use Rattle.std.proofs.Common.{Option, not, refl, rules, sym, subst, ap, ◌∙◌}
use Rattle.sqlite.specs.Held.{Held, state}
use Rattle.desk.specs.Keeping.{Keeps}
use Rattle.solver.specs.SessionState.{SessionState}
use Rattle.http_stream.specs.Served.{Serves}
use Rattle.web.specs.Serving.{AnswersMessage, at_desk, end_text}
use Rattle.page_office.proofs.Served.{serves_all}
use Rattle.page_office.proofs.serving.serve_at.Goals as goal

pub returns-in-Ok-came-clause-served : goal.returns-in-Ok-came-clause-served
returns-in-Ok-came-clause-served g c =
    let opened = c.in-Ok.desk in
    let next = c.serve_stream-came.new.desk in
    let given = c.into_connection-connection.ensures.same in
    record {
      opened = opened.store;
      office = opened.office;
      opens = c.in-Ok.ensures.opened.opening.office;
      fit = c.in-Ok.ensures.opened.in_order.fit;
      count = c.in-Ok-came.field-0.answered;
      end = c.in-Ok-came.field-0.end;
      next = at_desk next;
      answered =
          subst (λ (s : Option SessionState). Serves AnswersMessage end_text (record { office = opened.office; session = s }) c.args.stream.now c.into_inner.result.items c.in-Ok-came.field-0.answered c.in-Ok-came.field-0.end (at_desk next))
          c.in-Ok.ensures.opened.no_session
          (serves_all AnswersMessage end_text (at_desk opened) c.args.stream.now c.serve_stream-came.new.reader.inner.now c.into_inner.result.items _ _ _ _ c.in-Ok-came.field-0 (at_desk next) (search rules) (search rules) refl (search rules) c.in-Ok-came.ensures.session.served);
      stands = subst (λ (last : Held g.row.S.Denot). Keeps (state g.S.Store last) next.office) (sym given) c.into_connection-connection.ensures.tables;
      settled = c.is_autocommit.ensures.settled (c.is_autocommit.ensures.value ∙ ap (λ (last : Held g.row.S.Denot). not last.in_transaction) given ∙ ap not c.into_connection-connection.ensures.ended);
    }

pub returns-in-Err-clause-damaged : goal.returns-in-Err-clause-damaged
returns-in-Err-clause-damaged g c = λ is. (c.in-Err._connection, λ clean. (c.in-Err.ensures.unopened.damaged clean is, c.in-Err.ensures.unopened.some is))
