use Rattle.std.proofs.Common.{arith, ◌≡◌, ◌+◌, ◌<◌, ◌++◌, ◌∷◌, [], inl, inr, length, slice_get, sym, ◌∙◌, ap}
use Rattle.network.proofs.Common.{cases_eq, length-append, count_of, owner_at, numbers_of, numbers_at}
use Rattle.network.proofs.Lists.{slice_get-last, slice_get-before}
use Rattle.network.proofs.seating.all_offered.Goals as goal

pub loop-i-init : goal.loop-i-init
loop-i-init c = record { len = ap length c.in_ok-lists.ensures.items; each = λ m p lt. absurd (omega (arith, lt)) }

pub loop-i-smaller : goal.loop-i-smaller
loop-i-smaller c = omega (arith, c.loop-i-test.true)

pub loop-i-preserved : goal.loop-i-preserved
loop-i-preserved c =
    let L = c.loop-i.lists.items in
    let v = c.in_ok-projects_of.field-0 in
    let now : c.push.new.self.items ≡ L ++ v ∷ [] = c.in_ok-push.ensures.items in
    record {
      len = ap length now ∙ length-append L (v ∷ []) ∙ ap (λ n. n + 1) c.loop-i.invariant.len;
      each = λ m p lt. ap (λ z. count_of (numbers_at z m) p) now ∙ elim (cases_eq m c.loop-i.i) [
        | inl e ↦
            (let last = ap (slice_get (L ++ v ∷ [])) (e ∙ sym c.loop-i.invariant.len) ∙ slice_get-last L v in
            ap (λ z. count_of (numbers_of z) p) last ∙ c.in_ok-projects_of.ensures p ∙ ap (owner_at (slice_get c.args.projects.now p)) (sym e))
        | inr ne ↦
            (let less : m < length L = omega (arith, lt, ne, c.loop-i.invariant.len) in
            ap (λ z. count_of (numbers_of z) p) (slice_get-before L v m less) ∙ c.loop-i.invariant.each m p (omega (arith, lt, ne)))
      ];
    }

pub returns : goal.returns
returns c =
    let end : c.loop-i.i ≡ length c.args.supervisors.now = omega (arith, c.loop-i-test.false, c.loop-i.auto.i-end) in
    record { one_each = c.loop-i.invariant.len ∙ end; each = λ l p lt. c.loop-i.invariant.each l p (omega (arith, lt, end)) }
