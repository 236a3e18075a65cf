use Rattle.office.proofs.Common.{IfOk, State, arith, instance_left, ◌≡◌, ℕ, Some, subst}
use Rattle.std.proofs.Common.{◌-◌}
use Rattle.spa.specs.Named.{instance_of}
use Rattle.office_model.specs.Counted.{count_in, count_with}
use Rattle.office.proofs.office.Office.instance_of_round.Goals as goal

-- what is said of a number is said of one that equals it
of_equal : (P : ℕ → Type 0) (n m : ℕ) → P n → n ≡ m → P m
of_equal P n m h e = subst P e h

pub returns : goal.returns
returns c =
    let o : State = c.args.self.now in
    record { instance = of_equal (λ (n : ℕ). IfOk c.instance_left.result (λ i. instance_of i ≡ instance_left (count_with (Some n) o.projects o.placements) (count_in (Some n) o.placements) o c.args.round)) _ (c.args.round - 1) c.instance_left.ensures.instance (omega arith) }
