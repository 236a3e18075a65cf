use Rattle.std.proofs.Common.{◌≡◌, ◌<◌, ℕ, ℤ, List, refl, sym, ◌∙◌, subst}
use Rattle.public_result.proofs.Common.{false≢true, order, none, at, worth, holding, choice_at, rank_at, COMPONENTS, IsFirstBetter}
use Rattle.public_result.proofs.Moved.{moved}
use Rattle.verdict.proofs.Best.{contained_at}
use Rattle.public_result.proofs.ByPlaces.{by_places}
use Rattle.public_result.proofs.own.check_assigned.Goals as goal

pub returns-then-is_below_zero-clause-accepted : goal.returns-then-is_below_zero-clause-accepted
returns-then-is_below_zero-clause-accepted c =
    let has = c.in-Some.ensures in
    let below = c.is_below_zero.ensures.0 c.if-is_below_zero.true in (
      λ h. absurd (false≢true h),
      λ content. absurd (content.not_below (moved c.args.aim (at c.in-Some.has) none (holding c.args.posted.now c.args.list.now c.args.project) none has.1 (λ _ _. refl) below)),
    )

pub returns-then-is_below_zero-clause-failed : goal.returns-then-is_below_zero-clause-failed
returns-then-is_below_zero-clause-failed c =
    let has = c.in-Some.ensures in
    let below = c.is_below_zero.ensures.0 c.if-is_below_zero.true in
    (c.if-not-is_list.ensures.0 refl, has.0, moved c.args.aim (at c.in-Some.has) none (holding c.args.posted.now c.args.list.now c.args.project) none has.1 (λ _ _. refl) below)

pub returns-in-Some-first_better-clause-accepted : goal.returns-in-Some-first_better-clause-accepted
returns-in-Some-first_better-clause-accepted c =
    let has = c.in-Some.ensures in
    let xs : List ℕ = c.args.list.now in
    let k : ℕ = c.in-Some-first_better.place in
    let found = c.in-Some-first_better.ensures in
    let v : ℕ → ℤ = holding c.args.posted.now xs c.args.project in
    let p : ℕ = choice_at xs k in
    let more : order c.args.aim v (worth c.args.posted.now k p) = moved c.args.aim (at c.in-Some.has) (worth c.args.posted.now k p) v (worth c.args.posted.now k p) has.1 (λ _ _. refl) found.more in (
      λ h. absurd (false≢true h),
      λ content. absurd (content.unbeaten p (contained_at xs k found.place) (subst (λ (r : ℕ). order c.args.aim v (worth c.args.posted.now r p)) (sym (rank_at xs k content.sound.distinct found.place)) more)),
    )

pub returns-in-Some-first_better-clause-failed : goal.returns-in-Some-first_better-clause-failed
returns-in-Some-first_better-clause-failed c =
    let has = c.in-Some.ensures in
    let xs : List ℕ = c.args.list.now in
    let k : ℕ = c.in-Some-first_better.place in
    let found = c.in-Some-first_better.ensures in
    let v : ℕ → ℤ = holding c.args.posted.now xs c.args.project in
    let w : ℕ → ℕ → ℤ = λ j. worth c.args.posted.now j (choice_at xs j) in
    let back : (j : ℕ) → j < COMPONENTS → v j ≡ at c.in-Some.has j = λ j h. sym (has.1 j h) in
    let better : IsFirstBetter (order c.args.aim) c.args.posted.now xs v k = record {
      place = found.place;
      more = moved c.args.aim (at c.in-Some.has) (w k) v (w k) has.1 (λ _ _. refl) found.more;
      before = λ j a b more. found.before j a b (moved c.args.aim v (w j) (at c.in-Some.has) (w j) back (λ _ _. refl) more);
    } in (
      c.if-not-is_list.ensures.0 refl,
      has.0,
      λ below. false≢true (sym c.if-is_below_zero.false ∙ c.is_below_zero.ensures.1 (moved c.args.aim v none (at c.in-Some.has) none back (λ _ _. refl) below)),
      better,
    )

pub returns-clause-accepted : goal.returns-clause-accepted
returns-clause-accepted c =
    let has = c.in-Some.ensures in
    let xs : List ℕ = c.args.list.now in
    let sound = c.if-not-is_list.ensures.0 refl in
    let v : ℕ → ℤ = holding c.args.posted.now xs c.args.project in
    let back : (j : ℕ) → j < COMPONENTS → v j ≡ at c.in-Some.has j = λ j h. sym (has.1 j h) in (
      λ _. record {
        sound = sound;
        listed = has.0;
        not_below = λ below. false≢true (sym c.if-is_below_zero.false ∙ c.is_below_zero.ensures.1 (moved c.args.aim v none (at c.in-Some.has) none back (λ _ _. refl) below));
        unbeaten = by_places c.args.posted.now xs sound (λ r p. ¬ order c.args.aim v (worth c.args.posted.now r p))
            (λ k place more. c.in_default-first_better.ensures k place (moved c.args.aim v (worth c.args.posted.now k (choice_at xs k)) (at c.in-Some.has) (worth c.args.posted.now k (choice_at xs k)) back (λ _ _. refl) more));
      },
      λ _. refl,
    )
