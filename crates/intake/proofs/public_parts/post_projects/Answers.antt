use Rattle.std.proofs.Common.{◌≡◌, ℕ, ◌<◌, [], ◌∷◌, ◌++◌, length, get_or, map, slice_get, Some, All, refl, sym, ap, ◌∙◌, subst}
use Rattle.intake.proofs.Common.{get_or_from_slice_get, slice_get_within, All-push, code_at, map_push}
use Rattle.intake.proofs.Posting.{taken}
use Rattle.intake.proofs.public_parts.post_projects.Goals as goal

pub loop-p-preserved : goal.loop-p-preserved
loop-p-preserved c =
    let known = map (λ e. e.0) c.args.supervisors.now in
    let o : ℕ = c.owner_of.result in
    let q : ℕ = (get_or c.args.roll.now c.loop-p.p c.index-roll-p-in-loop-p-2.result).2 in
    let inv = c.loop-p.invariant in
    let owner : slice_get known o ≡ Some (get_or c.args.roll.now c.loop-p.p c.index-roll-p-in-loop-p.result).1 = (let a = c.owner_of.ensures in let i = c.index-roll-p-in-loop-p.is in cc) in
    let push : c.push-in-loop-p.new.self.items ≡ c.loop-p.offers.items ++ (o, q) ∷ [] = (let a = c.in_ok-push-2.ensures.items in let i = c.index-roll-p-in-loop-p-2.is in cc) in
    record {
      code = taken (λ e. e.0) c.args.roll.now c.loop-p.p _ c.loop-p.codes.items _ _ c.loop-p-test.true inv.code c.in_ok-push.ensures.items c.copy.ensures;
      owner = taken (λ e. e.1) c.args.roll.now c.loop-p.p _ _ _ _ c.loop-p-test.true inv.owner (ap (map (λ p. code_at known p.0)) push ∙ map_push (λ p. code_at known p.0) c.loop-p.offers.items (o, q)) (get_or_from_slice_get known o _ [] owner);
      quota = taken (λ e. e.2) c.args.roll.now c.loop-p.p _ _ _ _ c.loop-p-test.true inv.quota (ap (map (λ p. p.1)) push ∙ map_push (λ p. p.1) c.loop-p.offers.items (o, q)) refl;
      within = subst (All (λ p. p.0 < length known)) (sym push) (All-push (λ p. p.0 < length known) c.loop-p.offers.items (o, q) inv.within (slice_get_within known o _ owner));
    }
