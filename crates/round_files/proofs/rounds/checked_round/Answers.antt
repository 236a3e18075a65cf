use Rattle.std.proofs.Common.{refl}
use Rattle.round_files.proofs.rounds.checked_round.Goals as goal

pub returns-in-Ok : goal.returns-in-Ok
returns-in-Ok c = record {
  round = c.in_ok-parts.parts;
  read = c.in_ok-parts.ensures.reading;
  best = c.in-Ok.ensures.accepted.0 refl;
  maximum = c.in-Ok.ensures.best;
  is = c.in_ok-best-in-Ok.ensures;
}

pub returns : goal.returns
returns c = record {
  round = c.in_ok-parts.parts;
  fault = c.in-Err.fault;
  read = c.in_ok-parts.ensures.reading;
  first = c.in-Err.ensures.failed;
  is = c.in_ok-failed-in-Err.ensures;
}
