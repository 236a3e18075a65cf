use Rattle.store.proofs.Common.{IsActedOn, listed_at_one, subst, rules}
use Rattle.store.proofs.quiet.is_left.Goals as goal

pub returns-in-None-clause-sound : goal.returns-in-None-clause-sound
returns-in-None-clause-sound c h place listed = absurd (c.tree_of.ensures.none c.in-None.is place listed)

pub returns-in-None-clause-exact : goal.returns-in-None-clause-exact
returns-in-None-clause-exact c = (λ h. absurd (cc), λ at. absurd (c.tree_of.ensures.none c.in-None.is at.0 at.1))

-- a table is acted on where the tree at which it is listed is
pub returns-in-Some-clause-exact : goal.returns-in-Some-clause-exact
returns-in-Some-clause-exact c =
    let there = c.in-Some.ensures.some in
    let exact = c.is_inert.ensures.exact in (
      λ h. (record { tree = c.in-Some.tree; rules = there.0 }, there.1, exact.0 h),
      λ at. exact.1 (subst (IsActedOn c.args.schema.now.tables) (listed_at_one c.args.table _ at.0 (record { tree = c.in-Some.tree; rules = there.0 }) at.1 there.1) at.2),
    )

pub returns-in-Some-clause-sound : goal.returns-in-Some-clause-sound
returns-in-Some-clause-sound c = search rules
