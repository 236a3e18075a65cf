use Rattle.std.proofs.Common.{refl}
use Rattle.round_files.proofs.public.checked_public.Goals as goal

pub returns-in-Ok : goal.returns-in-Ok
returns-in-Ok c = record {
  parts = c.in_ok-parts.parts;
  read = c.in_ok-parts.ensures.reading;
  cleared = c.in-Ok.ensures.accepted.0 refl;
  best = c.in-Ok.ensures.best;
  is = c.in_ok-accepted-in-Ok.ensures;
}
