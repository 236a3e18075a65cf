use Rattle.std.proofs.Common.{ℕ, ◌+◌, ◌∙◌, List, ap, inr, refl, rules, subst}
use Rattle.cli.proofs.Common.{Appends, AnswersFrom, IsServed, IsUnbound}
use Rattle.cli.proofs.Writers.{all_served, ok_printed, served_printed, some_grows}
use Rattle.cli.proofs.tasks.serve_bound.Goals as goal

-- all were served
pub returns-in-Ok-serve_on-clause-printed : goal.returns-in-Ok-serve_on-clause-printed
returns-in-Ok-serve_on-clause-printed g c =
    rw (← c.outputs.view_is)
    (ok_printed (λ door o. IsServed (AnswersFrom g.S.Store) (g.D.Door.peers door) c.args.serving.port c.args.serving.count _ _ o) (λ _ o. IsUnbound c.args.serving.port _ _ o) c.args.bound c.in-Ok.door c.in-Ok.is _ _ _
    (served_printed (AnswersFrom g.S.Store) _ _ _ c.args.serving.port c.args.serving.count _ _ _ _ _ _ _
    (all_served (AnswersFrom g.S.Store) _ _ _ c.args.serving.port c.args.serving.count _ _ _ _ _ _ _ _ (subst (λ (t : List ℕ). Appends (g.O.Sink.written c.outputs.inside.out) (g.O.Sink.written c.write_all.new.writer) t) (search rules) c.in-Ok-write_all.ensures.ok)
    c.in-Ok-write_all.ensures.count_ok c.in-Ok-serve_on.ensures.served c.in-Ok-serve_on.ensures.count_ok c.status_after.ensures)))

-- a line could not be written
pub returns-in_default-write_all-clause-printed : goal.returns-in_default-write_all-clause-printed
returns-in_default-write_all-clause-printed g c =
    rw (← c.outputs.view_is)
    (ok_printed (λ door o. IsServed (AnswersFrom g.S.Store) (g.D.Door.peers door) c.args.serving.port c.args.serving.count _ _ o) (λ _ o. IsUnbound c.args.serving.port _ _ o) c.args.bound c.in-Ok.door c.in-Ok.is _ _ _
    (served_printed (AnswersFrom g.S.Store) _ _ _ c.args.serving.port c.args.serving.count _ _ _ _ _ _ _ (inr (c.in_default-write_all.ensures.count_err, refl, (_, c.in_default-write_all.ensures.err.2)))))

pub returns-clause-printed : goal.returns-clause-printed
returns-clause-printed g c =
    rw (← c.outputs.view_is)
    (ok_printed (λ door o. IsServed (AnswersFrom g.S.Store) (g.D.Door.peers door) c.args.serving.port c.args.serving.count _ _ o) (λ _ o. IsUnbound c.args.serving.port _ _ o) c.args.bound c.in-Ok.door c.in-Ok.is _ _ _
    (served_printed (AnswersFrom g.S.Store) (g.D.Door.peers c.in-Ok.door) _ _ c.args.serving.port c.args.serving.count _ _ _ _ _ _ _
    (inr (
      c.in-Err.ensures.count_err ∙ ap (λ n. n + 1) c.in-Ok-write_all.ensures.count_ok,
      refl,
      some_grows (AnswersFrom g.S.Store) (g.D.Door.peers c.in-Ok.door) _ _ c.args.serving.port c.args.serving.count _ _ _
          (subst (λ (t : List ℕ). Appends (g.O.Sink.written c.outputs.inside.out) (g.O.Sink.written c.write_all.new.writer) t) (search rules) c.in-Ok-write_all.ensures.ok) c.in-Err.ensures.broken,
    ))))
