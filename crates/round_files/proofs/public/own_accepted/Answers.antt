use Rattle.std.proofs.Common.{◌≡◌, ℕ, ◌<◌, length, arith, sym, ap, refl, ◌∙◌, rules}
use Rattle.round_files.proofs.public.own_accepted.Goals as goal
