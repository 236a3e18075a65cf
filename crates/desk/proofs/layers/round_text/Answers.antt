use Rattle.std.proofs.Common.{refl, ap, ◌∙◌}
use Rattle.desk.proofs.layers.Common.{State, last_round, placed_in_project, placed_with_supervisor}
use Rattle.office_model.specs.declared.request.Reply.TheVariants as reply
use Rattle.intake.specs.Lines.{instance_text}
use Rattle.desk.proofs.layers.round_text.Goals as goal

pub instance_text-requires : goal.instance_text-requires
instance_text-requires c =
    let o : State = c.args.office.now in
    record { office = o; fit = c.last_aim.ensures.fit; round = last_round o; with_supervisor = placed_with_supervisor o; in_project = placed_in_project o; same = c.in_ok-instance.ensures.instance }

pub returns : goal.returns
returns c =
    let text = c.in_ok-of.ensures ∙ c.as_str.ensures.value ∙ c.in_ok-text.ensures ∙ (λ k. instance_text (c.last_aim.ensures.aim k) (c.in_ok-instance.ensures.instance k)) in
    record { made = (ap reply.Text text, refl) }
