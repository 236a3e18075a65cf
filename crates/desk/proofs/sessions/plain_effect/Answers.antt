use Rattle.std.proofs.Common.{◌≡◌, ℕ, List, IfOk, sym, subst, rules}
use Rattle.desk.proofs.Common.{Plain, list_effect, plain_effect}
use Rattle.desk.proofs.sessions.plain_effect.Goals as goal

pub returns-in-PutList : goal.returns-in-PutList
returns-in-PutList c =
    subst (λ (p : Plain). IfOk c.list_effect.result (λ effect. effect ≡ plain_effect c.args.office.now p)) (sym c.in-PutList.is)
    (subst (λ (student : List ℕ). IfOk c.list_effect.result (λ effect. effect ≡ list_effect c.args.office.now student)) c.as_str.ensures c.list_effect.ensures)

pub returns-in-PutSupervisor : goal.returns-in-PutSupervisor
returns-in-PutSupervisor c = search rules
