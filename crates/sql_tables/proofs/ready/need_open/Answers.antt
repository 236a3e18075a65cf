use Rattle.sql_tables.proofs.Common.{[], sym, rules}
use Rattle.sql_tables.proofs.Plainest.{always_ready}
use Rattle.sql_tables.proofs.SelectAll.{not_run_rests}
use Rattle.sql_tables.proofs.ready.need_open.Goals as goal

pub returns-in_err-prepare-clause-reads : goal.returns-in_err-prepare-clause-reads
returns-in_err-prepare-clause-reads g c = record {
  rests = λ clean. not_run_rests _ _ _ [] _ (c.in_err-prepare.ensures.err clean []);
  cause = λ clean h.
      let gives = rw h at c.from_residual.ensures.1 in
      always_ready _ _ _ (sym gives) (c.in_err-prepare.ensures.err clean []);
  ended = search rules;
  survives = search rules;
}
