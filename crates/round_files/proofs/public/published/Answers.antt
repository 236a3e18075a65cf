use Rattle.std.proofs.Common.{refl}
use Rattle.round_files.proofs.public.published.Goals as goal

pub public_of-requires : goal.public_of-requires
public_of-requires c = c.in-Ok.ensures.accepted.0 refl

pub returns-in_ok-public_of-in-Ok : goal.returns-in_ok-public_of-in-Ok
returns-in_ok-public_of-in-Ok c = record {
  round = c.in_ok-parts.parts;
  read = c.in_ok-parts.ensures.reading;
  best = c.in-Ok.ensures.accepted.0 refl;
  publication = c.in_ok-public_of-in-Ok.ensures;
}

pub returns-in_ok-failed-in-Err : goal.returns-in_ok-failed-in-Err
returns-in_ok-failed-in-Err c = record {
  round = c.in_ok-parts.parts;
  fault = c.in-Err.fault;
  read = c.in_ok-parts.ensures.reading;
  first = c.in-Err.ensures.failed;
  is = c.in_ok-failed-in-Err.ensures;
}
