use Rattle.std.proofs.Common.{◌≡◌, length, pos, All, refl, rules, subst, sym}
use Rattle.intake.proofs.Common.{All-replicate, IsTrue}
use Rattle.intake.proofs.Prices.{all_zero, zero_is}
use Rattle.intake.proofs.draft.is_zero.Goals as goal

pub returns : goal.returns
returns c =
    let all : (IsTrue c.all.result → All (λ n. n ≡ pos 0) c.args.price.now) × (All (λ n. n ≡ pos 0) c.args.price.now → IsTrue c.all.result) = search rules in
    (λ t. all_zero c.args.price.now (all.0 t), λ z. all.1 (subst (All (λ n. n ≡ pos 0)) (sym (zero_is c.args.price.now z)) (All-replicate (λ n. n ≡ pos 0) (length c.args.price.now) (pos 0) refl)))
