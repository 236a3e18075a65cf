use Rattle.std.proofs.Common.{◌≡◌, true, sym, subst, ◌∙◌}
use Rattle.desk.proofs.Common.{State, Plain, PutSupervisor, is_read, after_plain}
use Rattle.desk.specs.Inside.Keeping.{AreKept}
use Rattle.desk.proofs.persistent.PersistentOffice.read.Goals as goal

-- a request that only reads leaves the office
read_leaves : (p : Plain) (o : State) → is_read p ≡ true → after_plain p o ≡ o
read_leaves (PutSupervisor code label quota) o h = cc
read_leaves _ o h = cc

pub invariant_of-self-2 : goal.invariant_of-self-2
invariant_of-self-2 g c =
    let left = c.in_ok-make.ensures.done.after ∙ read_leaves c.args.plain c.self.inside.office c.requires.read in
    subst (λ (o : State). AreKept g.S.Store (record { office = o; store = c.self.inside.store })) (sym left) c.self.invariant
