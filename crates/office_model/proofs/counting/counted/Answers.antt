use Rattle.office_model.proofs.Common.{◌&&◌, bytes_eq, Placement, is_made_by, offers, arith, sym, ap, ◌∙◌, ℕ, ◌+◌, cond}
use Rattle.office_model.proofs.Positions.{count_one_more}
use Rattle.office_model.proofs.counting.counted.Goals as goal

pub loop-placement-preserved : goal.loop-placement-preserved
loop-placement-preserved c =
    let q : Placement = c.placement-item.result in
    let all = c.args.placements.now in
    let i : ℕ = c.loop-placement.placement-index in
    record {
      counted = record {
        in_project = λ k e is.
            c.count.ensures.in_project k e is
            ∙ ap (λ (n : ℕ). n + cond (is_made_by c.args.up_to q && bytes_eq e.code q.project) 1 0) (c.loop-placement.invariant.counted.in_project k e is)
            ∙ sym (count_one_more (λ (p : Placement). is_made_by c.args.up_to p && bytes_eq e.code p.project) all i q c.loop-placement-test.true c.placement-item.is);
        with_supervisor = λ k s is.
            c.count.ensures.with_supervisor k s is
            ∙ ap (λ (n : ℕ). n + cond (is_made_by c.args.up_to q && offers c.args.projects.now s.code q.project) 1 0) (c.loop-placement.invariant.counted.with_supervisor k s is)
            ∙ sym (count_one_more (λ (p : Placement). is_made_by c.args.up_to p && offers c.args.projects.now s.code p.project) all i q c.loop-placement-test.true c.placement-item.is);
      };
      few_in_project = λ k. let few = c.loop-placement.invariant.few_in_project k in let more = c.count.ensures.few_in_project k in omega (arith, few, more);
      few_with_supervisor = λ k. let few = c.loop-placement.invariant.few_with_supervisor k in let more = c.count.ensures.few_with_supervisor k in omega (arith, few, more);
    }
