-- The program's command is simple, so that `clap` says in full what it makes of the words.
use Rattle.std.proofs.Common.{◌≡◌, ◌&&◌, Bool, true, false, refl}
use Rattle.args.proofs.Common.{is_simple_and_free, program, Kinds}
use Rattle.clap.proofs.OnLiterals.{clap_on_literals}

-- whatever words are lent to it
pub program_is_simple : (kinds : Kinds) → is_simple_and_free (program kinds) ≡ true
unfolding clap_on_literals
program_is_simple kinds = refl

-- and so of the first half of that test
pub both_left : (a b : Bool) → (a && b) ≡ true → a ≡ true
both_left true b h = refl
both_left false b h = h
