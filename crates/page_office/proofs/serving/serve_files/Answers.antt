use Rattle.page_office.proofs.serving.serve_files.Goals as goal

pub returns-then-is_whole-clause-served : goal.returns-then-is_whole-clause-served
returns-then-is_whole-clause-served g c = record {
  first = c.in-Ok.connection;
  begun = record { opened = c.in-Ok.ensures.opened; found = c.in-Ok.ensures.found };
  last = c.in-Ok-serve_at.connection;
  served = c.in-Ok-serve_at.ensures.served;
  closed = c.close-files.ensures c.if-is_whole.true;
}

pub returns-in-Err-serve_at-clause-damaged : goal.returns-in-Err-serve_at-clause-damaged
returns-in-Err-serve_at-clause-damaged g c = λ is. (c.in-Ok.connection, record { opened = c.in-Ok.ensures.opened; found = c.in-Ok.ensures.found }, c.in-Err-serve_at.ensures.damaged is)
