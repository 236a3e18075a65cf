use Rattle.public_result.proofs.publishing.publish.Goals as goal
use Rattle.public_result.proofs.publishing.publish.Goals.{then-is_known+in_ok-projects, else-is_known}

pub returns-clause-accepted : goal.returns-clause-accepted
returns-clause-accepted c = λ best.
    elim c.if-is_known.branch [
      | then-is_known+in_ok-projects w ↦ rw w.posted-is (w.replace_prices.ensures.accepted (c.in_ok-posted.ensures.accepted c.args.aim best))
      | else-is_known w ↦ rw w.posted-is (c.in_ok-posted.ensures.accepted c.args.aim best)
    ]
