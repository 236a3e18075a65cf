use Rattle.std.proofs.Common.{◌≡◌, ◌+◌, ◌<◌, ◌≤◌, ℕ, List, slice_index, get_or, arith, below_more, refl, sym, ◌∙◌, ap}
use Rattle.public_result.proofs.Common.{false≢true, order, at, worth, choice_at, COMPONENTS}
use Rattle.public_result.proofs.Moved.{moved}
use Rattle.public_result.proofs.own.first_better.Goals as goal

pub loop-before-init : goal.loop-before-init
loop-before-init c = λ k h l. absurd (omega arith)

pub loop-before-preserved : goal.loop-before-preserved
loop-before-preserved c =
    let xs : List ℕ = c.args.list.now in
    let b : ℕ = c.loop-before.before in
    let here : get_or xs b 0 ≡ choice_at xs (b + 1) = ap (slice_index xs) (omega arith) in
    let same : (k : ℕ) → k < COMPONENTS → worth c.args.posted.now (b + 1) (choice_at xs (b + 1)) k ≡ at c.worth_of.result k =
    λ k h. sym (c.worth_of.ensures k h ∙ ap (λ (p : ℕ). worth c.args.posted.now (b + 1) p k) here) in
    λ k h l. below_more (λ k. 1 ≤ k → ¬ order c.args.aim (at c.args.has.now) (worth c.args.posted.now k (choice_at xs k))) (b + 1)
    (λ k l h. c.loop-before.invariant k h l)
    (λ h more. false≢true (sym c.if-precedes.false ∙ c.precedes.ensures.1 (moved c.args.aim (at c.args.has.now) (worth c.args.posted.now (b + 1) (choice_at xs (b + 1))) (at c.args.has.now) (at c.worth_of.result) (λ k _. refl) same more))) k l h

pub returns-then-precedes : goal.returns-then-precedes
returns-then-precedes c =
    let xs : List ℕ = c.args.list.now in
    let b : ℕ = c.loop-before.before in
    let here : get_or xs b 0 ≡ choice_at xs (b + 1) = ap (slice_index xs) (omega arith) in
    let same : (k : ℕ) → k < COMPONENTS → at c.worth_of.result k ≡ worth c.args.posted.now (b + 1) (choice_at xs (b + 1)) k =
    λ k h. c.worth_of.ensures k h ∙ ap (λ (p : ℕ). worth c.args.posted.now (b + 1) p k) here in
    record {
      place = record { first = omega arith; last = omega (arith, c.loop-before-test.true) };
      more = moved c.args.aim (at c.args.has.now) (at c.worth_of.result) (at c.args.has.now) (worth c.args.posted.now (b + 1) (choice_at xs (b + 1))) (λ k _. refl) same (c.precedes.ensures.0 c.if-precedes.true);
      before = λ j h l. c.loop-before.invariant j h l;
    }

pub returns : goal.returns
returns c = λ k h. c.loop-before.invariant k h.first (omega (arith, h.last, c.loop-before-test.false))
