use Rattle.std.proofs.Common.{◌≡◌, ℕ, ◌<◌, length, map, get_or, IfSome, All, sym, ap, ◌∙◌, subst}
use Rattle.intake.proofs.Common.{All-push, assigned_list, code_at, length-map, map_push}
use Rattle.intake.proofs.Posting.{taken}
use Rattle.intake.proofs.public_parts.post_students.Goals as goal

pub loop-s-preserved : goal.loop-s-preserved
loop-s-preserved c =
    let known = map (λ e. e.0) c.args.projects.now in
    let inv = c.loop-s.invariant in
    let list : c.deref.result.now ≡ (get_or c.args.roll.now c.loop-s.s c.index-roll-s-in-loop-s.result).1.items = (let a = c.deref.ensures.value in let i = c.index-roll-s-in-loop-s.is in cc) in
    record {
      code = taken (λ e. e.0) c.args.roll.now c.loop-s.s _ c.loop-s.codes.items _ _ c.loop-s-test.true inv.code c.in_ok-push.ensures.items c.copy.ensures;
      list = taken (λ e. e.1.items) c.args.roll.now c.loop-s.s _ _ _ _ c.loop-s-test.true inv.list (ap (map (λ t. map (code_at known) (assigned_list t))) c.in_ok-push-2.ensures.items ∙ map_push (λ t. map (code_at known) (assigned_list t)) c.loop-s.assigned.items c.assigned_of.result) (c.assigned_of.ensures.list ∙ list);
      within = subst (All (λ t. IfSome t (λ p. p < length known))) (sym c.in_ok-push-2.ensures.items)
          (All-push (λ t. IfSome t (λ p. p < length known)) c.loop-s.assigned.items c.assigned_of.result inv.within (subst (λ (n : ℕ). IfSome c.assigned_of.result (λ p. p < n)) (sym (length-map c.args.projects.now (λ e. e.0))) c.assigned_of.ensures.known));
    }
