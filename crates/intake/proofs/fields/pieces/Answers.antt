use Rattle.std.proofs.Common.{◌≡◌, ◌==◌, ℕ, ◌-◌, true, false, List, [], ◌∷◌, ◌++◌, map, take, drop, length, get_or, rules, tests, ap, ◌∙◌, subst, arith}
use Rattle.intake.proofs.Common.{Bor, map_push, take_rest}
use Rattle.intake.proofs.Pieces.{AreCut, cut_on, cut_here, cut_all}
use Rattle.intake.proofs.fields.pieces.Goals.{then-text-at+in_ok-push, else-text-at}
use Rattle.intake.proofs.fields.pieces.Goals as goal

pub loop-at-preserved : goal.loop-at-preserved
loop-at-preserved c =
    let text : List ℕ = c.args.text.now in
    let cut = c.loop-at.invariant in
    elim c.if-text-at.branch [
      | then-text-at+in_ok-push w ↦
          let yes : (get_or text c.loop-at.at 0 == c.args.end) ≡ true = search (rules, tests) in
          let items : map (λ (p : Bor (List ℕ)). p.now) w.push.new.self.items ≡ map (λ (p : Bor (List ℕ)). p.now) c.loop-at.pieces.items ++ take (c.loop-at.at - c.loop-at.start) (drop c.loop-at.start text) ∷ [] =
          ap (map (λ (p : Bor (List ℕ)). p.now)) w.in_ok-push.ensures.items ∙ map_push (λ (p : Bor (List ℕ)). p.now) c.loop-at.pieces.items _ in
          rw (w.pieces-is, w.start-is, items) (cut_here c.args.end text _ c.loop-at.start c.loop-at.at 0 c.loop-at-test.true yes cut)
      | else-text-at w ↦
          let no : (get_or text c.loop-at.at 0 == c.args.end) ≡ false = search (rules, tests) in
          rw (w.pieces-is, w.start-is) (cut_on c.args.end text _ c.loop-at.start c.loop-at.at 0 c.loop-at-test.true no cut)
    ]

pub returns : goal.returns
returns c =
    let text : List ℕ = c.args.text.now in
    let items : map (λ (p : Bor (List ℕ)). p.now) c.push-2.new.self.items ≡ map (λ (p : Bor (List ℕ)). p.now) c.loop-at.pieces.items ++ take (length text - c.loop-at.start) (drop c.loop-at.start text) ∷ [] =
    ap (map (λ (p : Bor (List ℕ)). p.now)) c.in_ok-push-2.ensures.items ∙ map_push (λ (p : Bor (List ℕ)). p.now) c.loop-at.pieces.items _ in
    let exit : c.loop-at.at ≡ length text = omega (arith, c.loop-at-test.false, c.loop-at.auto.at-end) in
    items ∙ ap (λ (l : List ℕ). map (λ (p : Bor (List ℕ)). p.now) c.loop-at.pieces.items ++ l ∷ []) (take_rest text c.loop-at.start)
    ∙ cut_all c.args.end text _ c.loop-at.start (subst (λ (n : ℕ). AreCut c.args.end text (map (λ (p : Bor (List ℕ)). p.now) c.loop-at.pieces.items) c.loop-at.start n) exit c.loop-at.invariant)
