use Rattle.std.proofs.Common.{◌≡◌, ℕ, ◌+◌, ◌<◌, false, inl, inr, [], ◌∷◌, ◌++◌, length, get_or, map, drop, string_bytes, refl, sym, ap, ◌∙◌, arith, below_more}
use Rattle.intake.proofs.Common.{signed_decimal, cases_Bool, get_or_read, get_or_default, COMPONENTS, has_line, line}
use Rattle.intake.proofs.RestOfText.{price_text, next, next_price, no_price}
use Rattle.intake.proofs.write.write_prices.Goals as goal
use Rattle.intake.proofs.write.write_prices.Goals.{then-has_line+in_ok-push_price, else-has_line}

pub loop-n-preserved : goal.loop-n-preserved
loop-n-preserved c =
    let n : ℕ = c.loop-n.n in
    let priced : n < length c.args.prices.now = c.loop-n-test.true in
    let coded : n < length c.args.roll.now = omega (arith, priced, c.requires) in
    let rest = price_text c.args.kind c.args.letter.now (drop (n + 1) c.args.roll.now) (drop (n + 1) c.args.prices.now) in
    record {
      text = elim c.if-has_line.branch [
        | then-has_line+in_ok-push_price w ↦
            let code = w.as_str.ensures.value ∙ get_or_read c.args.roll.now n w.index-roll-n.result coded w.index-roll-n.is [] in
            let some = next_price c.args.kind c.args.letter.now c.args.roll.now c.args.prices.now n w.as_str.result.now (get_or c.args.prices.now n []) coded priced (sym code) refl (c.has_line.ensures.0 w.if-has_line.true) in
            ap (λ out. string_bytes out ++ rest) w.out-is
            ∙ next (string_bytes c.loop-n.out) (string_bytes w.push_price.new.out) (line c.args.letter.now (w.as_str.result.now ∷ map signed_decimal (get_or c.args.prices.now n [])) ++ 10 ∷ []) rest _ w.in_ok-push_price.ensures
            (ap (λ r. string_bytes c.loop-n.out ++ r) (sym some) ∙ c.loop-n.invariant.text)
        | else-has_line w ↦
            let none : has_line c.args.kind (get_or c.args.prices.now n []) ≡ false = (elim (cases_Bool (has_line c.args.kind (get_or c.args.prices.now n []))) [
              | inl so ↦ (let t = c.has_line.ensures.1 so in let f = w.if-has_line.false in cc)
              | inr off ↦ off
            ]) in
            ap (λ out. string_bytes out ++ rest) w.out-is ∙ ap (λ r. string_bytes c.loop-n.out ++ r) (sym (no_price c.args.kind c.args.letter.now c.args.roll.now c.args.prices.now n coded priced none)) ∙ c.loop-n.invariant.text
      ];
      numbers = λ k d. below_more (λ k. length (get_or c.args.prices.now k d) ≡ COMPONENTS) n (λ k l. c.loop-n.invariant.numbers k d l) (ap length (get_or_default c.args.prices.now n d [] priced) ∙ c.told-prices n priced) k;
    }
