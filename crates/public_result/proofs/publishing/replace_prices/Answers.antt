use Rattle.public_result.proofs.publishing.replace_prices.Goals as goal

pub returns-then-not-is_accepted-clause-accepted : goal.returns-then-not-is_accepted-clause-accepted
returns-then-not-is_accepted-clause-accepted c = λ held. rw (c.replace-own_projects.ensures.value, c.replace-own_supervisors.ensures.value) held
