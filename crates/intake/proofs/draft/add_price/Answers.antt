use Rattle.std.proofs.Common.{◌≡◌, ℕ, ℤ, List, [], ◌∷◌, ◌++◌, length, map, Some, sym, ap, subst, ◌∙◌, rules}
use Rattle.intake.proofs.Common.{Bor, HasLine, StandsAfter}
use Rattle.intake.proofs.Lists.{first_field, other_fields}
use Rattle.intake.proofs.One.{same_price}
use Rattle.intake.proofs.PairLine.{one_place}
use Rattle.intake.proofs.Prices.{price_is, price_written}
use Rattle.intake.proofs.draft.add_price.Goals as goal

pub returns-then-not-stands_after : goal.returns-then-not-stands_after
returns-then-not-stands_after g c = λ e t.
    let keys : List (List ℕ) = map g.E.Coded.key c.args.roll.now in
    let first = first_field _ _ _ _ (sym (ap (map (λ (f : Bor (List ℕ)). f.now)) c.in-Some.ensures.cases.0) ∙ (price_is c.args.kind t.entry e.1 _ t.is).1) in
    let same : c.in-Some-position_at.position ≡ e.0 = one_place keys c.in-Some-position_at.position e.0 _ c.requires.rise c.in-Some-position_at.ensures.1 (t.here ∙ ap Some (sym first)) in
    let many : c.len-2.result ≡ length c.args.prices.now.items = search rules in
    let after : StandsAfter c.args.kind c.len-2.result c.in-Some-position_at.position = subst (λ (n : ℕ). StandsAfter c.args.kind n c.in-Some-position_at.position) (sym many) (subst (StandsAfter c.args.kind (length c.args.prices.now.items)) (sym same) t.later) in
    let yes = c.stands_after.ensures.1 after in
    let no = c.if-not-stands_after.true in
    cc

pub returns-then-not-has_line : goal.returns-then-not-has_line
returns-then-not-has_line g c = λ e t.
    let is = price_is c.args.kind t.entry e.1 _ t.is in
    let numbers = other_fields _ _ _ _ (sym (ap (map (λ (f : Bor (List ℕ)). f.now)) c.in-Some.ensures.cases.0) ∙ is.1) in
    let same : e.1 ≡ c.in-Some-read_price.price = same_price e.1 c.in-Some-read_price.price t.fits c.in-Some-read_price.ensures.0 (sym numbers ∙ c.in-Some-read_price.ensures.1) in
    let yes = c.has_line.ensures.1 (subst (HasLine c.args.kind) same is.0) in
    let no = c.if-not-has_line.true in
    cc

pub returns : goal.returns
returns g c =
    let p : ℕ = c.in-Some-position_at.position in
    let v : List ℤ = c.in-Some-read_price.price in
    let many : c.len-2.result ≡ length c.args.prices.now.items = search rules in (
      (p, v),
      record {
        entry = c.in-Some.code.now.now;
        here = c.in-Some-position_at.ensures.1;
        later = subst (λ (n : ℕ). StandsAfter c.args.kind n p) many (c.stands_after.ensures.0 c.if-not-stands_after.false);
        fits = c.in-Some-read_price.ensures.0;
        is = price_written c.args.kind c.in-Some.code.now.now v (c.has_line.ensures.0 c.if-not-has_line.false)
            ∙ ap Some (sym (ap (map (λ (f : Bor (List ℕ)). f.now)) c.in-Some.ensures.cases.0 ∙ ap (λ (l : List (List ℕ)). c.in-Some.code.now.now ∷ l) c.in-Some-read_price.ensures.1));
      },
      c.in_ok-push.ensures.items ∙ ap (λ (l : List (List ℤ)). l ++ v ∷ []) c.in_ok-fill.ensures,
    )
