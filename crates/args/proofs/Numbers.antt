-- What `parse` makes of a word that may stand for a number.
use Rattle.std.proofs.Common.{◌≡◌, ◌^◌, ℕ, List, Result, Ok, Err, arith, false, refl, true}
use Rattle.args.proofs.Common.{IsOk, IsNumberBelow, fits, Takes, Number}
use Rattle.std.specs.Str.Parse.{ParsesUnsigned}
use Rattle.clap.proofs.ValueTestLemmas.{accepts-Accepts}
use Rattle.clap.specs.declared.builder.value_parser.ValueParser.TheVariants.{Unsigned}

-- a number of k bits is read
pub is_read : {E : Type 0} (k : ℕ) (takes : Takes) (word : List ℕ) (r : Result ℕ E) → ParsesUnsigned k 10 word r → IsNumberBelow (2 ^ k) takes → fits takes word ≡ true → IsOk r
is_read k (Number least most) word (Ok n) parsed below fit = refl
is_read k (Number least most) word (Err e) parsed below fit =
    let within = accepts-Accepts false (Unsigned least most) word fit in
    absurd (parsed (within.0, omega (arith, below, within.3)))
is_read k _ word r parsed below fit = absurd below
