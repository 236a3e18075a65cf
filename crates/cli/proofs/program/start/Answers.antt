use Rattle.std.proofs.Common.{◌∙◌}
use Rattle.cli.proofs.program.start.Goals as goal

pub returns : goal.returns
returns g c = record {
  world = c.lend-world.result.0;
  reader = c.lend-world.result.1;
  out = c.lend-world.result.2;
  err = c.lend-world.result.3;
  lent = c.lend-world.ensures.lent;
  last_reader = c.run_program-status.new.reader;
  last_out = c.into_parts-out.result.0;
  last_err = c.into_parts-out.result.1;
  taken = c.lend-world.ensures.stays _ _ _ c.take.ensures;
  came = c.run_program-status.result.1;
  status = c.run_program-status.result.0;
  done = rw (← c.into_parts-out.ensures, ← c.new-outputs.ensures) c.run_program-status.ensures.done;
  is = c.from.ensures ∙ c.number.ensures;
}
