-- A number more goes from what is left to what is written.
use Rattle.std.proofs.Common.{◌≡◌, ◌≤◌, ◌+◌, ◌++◌, ◌∷◌, [], Bool, true, false, ℕ, List, length, map, drop, get_or, decimal, refl, sym, ap, ◌∙◌, subst, arith, append_assoc}
use Rattle.http_api.proofs.Common.{drop_all, length-append, number, unsigned, items_of, comma_if, items_text, drop_more}
use Rattle.http_api.proofs.answers.push_numbers.Goals as goal

-- the text of the numbers that are left
abbrev left : Bool → List ℕ → List ℕ
left later ns = items_text later (items_of (map (λ n. number (unsigned n)) ns))

-- a comma is short
short : (later : Bool) → length (comma_if later) ≤ 1
short true = omega arith
short false = omega arith

regroup : (o k d l : List ℕ) → (o ++ (k ++ d)) ++ l ≡ o ++ (k ++ (d ++ l))
regroup o k d l = simp append_assoc

-- one more is written
goes_on : (whole out new comma : List ℕ) (later : Bool) (n : ℕ) (ns rest : List ℕ) → comma ≡ comma_if later → ns ≡ n ∷ rest → new ≡ out ++ (comma ++ decimal n) → out ++ left later ns ≡ whole
    → new ++ left true rest ≡ whole
goes_on whole out new comma later n ns rest c s e w =
    ap (λ (o : List ℕ). o ++ left true rest) e ∙ ap (λ (k : List ℕ). (out ++ (k ++ decimal n)) ++ left true rest) c ∙ regroup out (comma_if later) (decimal n) (left true rest)
    ∙ sym (ap (λ (t : List ℕ). out ++ left later t) s) ∙ w

pub loop-number-init : goal.loop-number-init
loop-number-init c = (false, refl, refl, omega arith)

pub loop-number-preserved : goal.loop-number-preserved
loop-number-preserved c =
    let k = c.loop-number.invariant in
    let i = c.loop-number.number-index in
    let few : length c.loop-number.comma.now ≤ 1 = subst (λ (t : List ℕ). length t ≤ 1) (sym k.1) (short k.0) in (
      true,
      refl,
      goes_on _ c.loop-number.out.items c.push_labelled.new.out.items c.loop-number.comma.now k.0 (get_or c.args.counts.now i 0) (drop i c.args.counts.now) (drop (i + 1) c.args.counts.now) k.1
          (drop_more c.args.counts.now i 0 c.loop-number-test.true) c.push_labelled.ensures.items k.2,
      omega (arith, k.3, few, c.push_labelled.ensures.len),
    )

pub push-requires : goal.push-requires
push-requires c = omega (arith, c.loop-number.invariant.3, c.requires, c.loop-number.auto.number-index-end)

pub push_labelled-requires : goal.push_labelled-requires
push_labelled-requires c =
    let k = c.loop-number.invariant in
    let few : length c.loop-number.comma.now ≤ 1 = subst (λ (t : List ℕ). length t ≤ 1) (sym k.1) (short k.0) in
    omega (arith, k.3, few, c.requires, c.loop-number-test.true)

pub returns-clause-items : goal.returns-clause-items
returns-clause-items c =
    let k = c.loop-number.invariant in
    c.push.ensures ∙ sym (ap (λ (t : List ℕ). c.loop-number.out.items ++ left k.0 t) (drop_all c.loop-number.number-index c.args.counts.now c.loop-number-test.false)) ∙ k.2

pub returns-clause-len : goal.returns-clause-len
returns-clause-len c =
    let all = ap length c.push.ensures in
    let sum = length-append c.loop-number.out.items (93 ∷ []) in
    omega (arith, all, sum, c.loop-number.invariant.3, c.loop-number.auto.number-index-end)
