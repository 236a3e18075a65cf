use Rattle.std.proofs.Common.{◌≡◌, ◌↔◌, ℕ, Option, None, get_or, ◌∙◌, subst}
use Rattle.std.specs.Prelude.{IsOk, IfErr}
use Rattle.public_result.proofs.Common.{get_or_default, order, IsContent, IsFirstOwnFailure}
use Rattle.public_result.proofs.own.check_own.Goals as goal

pub returns : goal.returns
returns c =
    let t = c.args.posted.now in
    let assigned : c.index.result.now ≡ get_or t.students.items c.args.student None = c.index.ensures ∙ get_or_default t.students.items c.args.student c.index.result.now None c.requires.student in
    record {
      accepted = subst (λ (x : Option ℕ). IsOk c.check_assigned.result ↔ IsContent (order c.args.aim) t c.args.list.now x) assigned c.check_assigned.ensures.accepted;
      failed = subst (λ (x : Option ℕ). IfErr c.check_assigned.result (λ fault. IsFirstOwnFailure (order c.args.aim) t c.args.list.now x fault)) assigned c.check_assigned.ensures.failed;
    }
