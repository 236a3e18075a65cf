use Rattle.std.proofs.Common.{refl}
use Rattle.public_result.proofs.Common.{false≢true}
use Rattle.public_result.proofs.Best.{posted_is_best}
use Rattle.public_result.proofs.public.check_public.Goals as goal

pub returns-clause-accepted : goal.returns-clause-accepted
returns-clause-accepted c = (
  λ _. record {
    placed = c.if-not-is_placed.ensures.0 refl;
    prices = c.if-not-has_prices.ensures.0 refl;
    not_below = c.if-not-is_not_below.ensures.0 refl;
    free = c.if-not-is_room_free.ensures.0 refl;
  },
  λ _. refl,
)

pub returns-clause-best : goal.returns-clause-best
returns-clause-best c =
    λ lists content. posted_is_best c.args.aim c.args.posted.now lists (record {
      placed = c.if-not-is_placed.ensures.0 refl;
      prices = c.if-not-has_prices.ensures.0 refl;
      not_below = c.if-not-is_not_below.ensures.0 refl;
      free = c.if-not-is_room_free.ensures.0 refl;
    }) content

pub returns-then-not-is_not_below-clause-failed : goal.returns-then-not-is_not_below-clause-failed
returns-then-not-is_not_below-clause-failed c = (
  c.if-not-is_placed.ensures.0 refl,
  c.if-not-has_prices.ensures.0 refl,
  λ e. false≢true (c.if-not-is_not_below.ensures.1 e),
)

pub returns-then-not-is_room_free-clause-failed : goal.returns-then-not-is_room_free-clause-failed
returns-then-not-is_room_free-clause-failed c = (
  c.if-not-is_placed.ensures.0 refl,
  c.if-not-has_prices.ensures.0 refl,
  c.if-not-is_not_below.ensures.0 refl,
  λ e. false≢true (c.if-not-is_room_free.ensures.1 e),
)
