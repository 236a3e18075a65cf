use Rattle.sqlite.proofs.Callers.{memory_is_clean}
use Rattle.cli.proofs.Anew.{opened_anew, served_anew, broken_anew}
use Rattle.cli.proofs.program.serve_anew.Goals as goal

pub returns-in-Ok-serve_stream-clause-served : goal.returns-in-Ok-serve_stream-clause-served
returns-in-Ok-serve_stream-clause-served g c = λ _. served_anew _ _ _ _ _ _ (opened_anew _ _ c.in-Ok-open.desk c.in-Ok.ensures.empty.2 (c.in-Ok-open.ensures.opened.opening.office (memory_is_clean c.in-Ok-open.desk.store)) c.in-Ok-open.ensures.opened.no_session) _ c.in-Ok-serve_stream.ensures.session

pub returns-clause-broken : goal.returns-clause-broken
returns-clause-broken g c = λ _. broken_anew _ _ _ _ _ _ (opened_anew _ _ c.in-Ok-open.desk c.in-Ok.ensures.empty.2 (c.in-Ok-open.ensures.opened.opening.office (memory_is_clean c.in-Ok-open.desk.store)) c.in-Ok-open.ensures.opened.no_session) _ c.in-Err.ensures.session

-- a stream that broke off is not reported as served
pub returns-clause-served : goal.returns-clause-served
returns-clause-served g c is = absurd (cc)
