use Rattle.sql_tables.proofs.Common.{Memory, Storage, fault_of, ◌≡◌, sym, rules}
use Rattle.sql_tables.proofs.Ends.{stopped}
use Rattle.sql_tables.proofs.Starved.{lacks}
use Rattle.sql_tables.proofs.write.write.Goals as goal

pub returns-in-Err-clause-step : goal.returns-in-Err-clause-step
returns-in-Err-clause-step g c = record {
  survives = search rules;
  did = λ clean. tt;
  kept = search rules;
  starved = λ clean inside h.
      let lack : fault_of c.in-Err.error ≡ Memory = let known = c.from.ensures in cc in
      lacks _ _ _ _ (c.in-Err.error, rw (c.in-Err.is, c.values.ensures.values) at (c.execute.ensures.runs clean inside), sym lack);
  cause = λ inside clean h.
      let other : fault_of c.in-Err.error ≡ Storage = let known = c.from.ensures in cc in
      stopped _ _ _ _ _ other (rw (c.in-Err.is, c.values.ensures.values) at (c.execute.ensures.runs clean inside));
}
