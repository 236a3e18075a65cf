use Rattle.std.proofs.Common.{◌≡◌, ℕ, ◌+◌, ◌-◌, ◌≤◌, List, [], ◌∷◌, ◌++◌, length, replicate, ap, ◌∙◌, append_assoc, arith}
use Rattle.intake.proofs.Common.{replicate_more}
use Rattle.intake.proofs.draft.fill.Goals as goal

-- one more
more : {X : Type 0} (x : X) (xs ys zs : List X) (m n : ℕ) → m ≤ n → ys ≡ xs ++ replicate (n - m) x → zs ≡ ys ++ x ∷ [] → zs ≡ xs ++ replicate (n + 1 - m) x
more {X = X} x xs ys zs m n h e f =
    let one : (n - m) + 1 ≡ n + 1 - m = omega arith in
    f ∙ ap (λ (l : List X). l ++ x ∷ []) e ∙ append_assoc xs (replicate (n - m) x) (x ∷ []) ∙ ap (λ (l : List X). xs ++ l) (replicate_more (n - m) x)
    ∙ ap (λ (k : ℕ). xs ++ replicate k x) one

pub loop-preserved : goal.loop-preserved
loop-preserved g c =
    more c.args.value c.args.list.now.items c.loop.list.items c.push.new.self.items (length c.args.list.now.items) c.loop.counter (omega (arith, c.loop.auto.counter)) c.loop.invariant c.in_ok-push.ensures.items
