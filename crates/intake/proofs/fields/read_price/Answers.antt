use Rattle.std.proofs.Common.{ℕ, get_or, pos, arith, List, []}
use Rattle.intake.proofs.Common.{Bor}
use Rattle.intake.proofs.Numbers.{field_is, fields_are}
use Rattle.intake.proofs.fields.read_price.Goals as goal

-- what a look-up past the end gives
abbrev blank : Bor (List ℕ)
blank = record { ref_ptr = (0, 0); now = [] }

pub returns-in_default : goal.returns-in_default
returns-in_default c = λ v p e.
    c.in_default.ensures (get_or v c.loop-t.t (pos 0)) (p.range c.loop-t.t c.loop-t-test.true) (field_is c.args.fields.now v c.loop-t.t blank e (omega (arith, p.numbers, c.loop-t-test.true)))

pub returns : goal.returns
returns c =
    let r = c.loop-t.invariant in (
      record { numbers = r.numbers; range = λ t h. r.range t (omega arith) },
      fields_are c.args.fields.now c.loop-t.price (omega arith) (λ k f h. r.texts k f (omega arith)),
    )
