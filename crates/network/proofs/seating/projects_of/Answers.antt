use Rattle.std.proofs.Common.{rules, arith, ◌≡◌, ℕ, ◌+◌, ◌*◌, inl, inr, get_or, length, Some, slice_get, sym, ◌∙◌, ap, eq-eqb, ne_eqb, eqb}
use Rattle.network.proofs.Common.{cases_eq, cases_lt, slice_get-get_or, slice_get_past, count_of, one_if, owner_at}
use Rattle.network.proofs.CountedLists.{count_more}
use Rattle.network.proofs.seating.projects_of.Goals as goal
use Rattle.network.proofs.seating.projects_of.Goals.{then-projects-i+in_ok-push, else-projects-i}

pub loop-i-preserved : goal.loop-i-preserved
loop-i-preserved c =
    let xs = c.args.projects.now in
    let i = c.loop-i.i in
    let at : slice_get xs i ≡ Some (get_or xs i (0, 0)) = slice_get-get_or xs i (0, 0) c.loop-i-test.true in
    let owner : owner_at (slice_get xs i) c.args.supervisor ≡ one_if (eqb (get_or xs i (0, 0)).0 c.args.supervisor) = ap (λ z. owner_at z c.args.supervisor) at in
    let now : (n : ℕ) → count_of c.if-projects-i.list.items n ≡ count_of c.loop-i.list.items n + owner_at (slice_get xs i) c.args.supervisor * one_if (eqb i n) = λ n. elim c.if-projects-i.branch [
      | then-projects-i+in_ok-push w ↦
          (let more = ap (λ z. count_of z.items n) w.list-is ∙ ap (λ z. count_of z n) w.in_ok-push.ensures.items ∙ count_more c.loop-i.list.items i n in
          let yes : owner_at (slice_get xs i) c.args.supervisor * one_if (eqb i n) ≡ 1 * one_if (eqb i n) = ap (λ z. z * one_if (eqb i n)) (owner ∙ ap one_if (eq-eqb _ _ w.if-projects-i.true)) in
          omega (arith, more, yes))
      | else-projects-i w ↦
          (let same = ap (λ z. count_of z.items n) w.list-is in
          let no : owner_at (slice_get xs i) c.args.supervisor * one_if (eqb i n) ≡ 0 * one_if (eqb i n) = ap (λ z. z * one_if (eqb i n)) (owner ∙ ap one_if (ne_eqb _ _ w.if-projects-i.false)) in
          omega (arith, same, no))
    ] in
    let here : (n : ℕ) → n ≡ i → owner_at (slice_get xs i) c.args.supervisor * one_if (eqb i n) ≡ owner_at (slice_get xs n) c.args.supervisor = λ n e.
    ap (λ z. owner_at (slice_get xs i) c.args.supervisor * one_if z) (eq-eqb i n (sym e)) ∙ omega arith ∙ sym (ap (λ z. owner_at (slice_get xs z) c.args.supervisor) e) in
    let none : (n : ℕ) → (n ≡ i → ⊥) → owner_at (slice_get xs i) c.args.supervisor * one_if (eqb i n) ≡ 0 = λ n ne.
    ap (λ z. owner_at (slice_get xs i) c.args.supervisor * one_if z) (ne_eqb i n (λ e. ne (sym e))) ∙ omega arith in
    record {
      below = λ n lt. elim (cases_eq n i) [
        | inl e ↦ (let last = c.loop-i.invariant.past n (omega (arith, e)) in omega (arith, now n, here n e, last))
        | inr ne ↦ (let before = c.loop-i.invariant.below n (omega (arith, lt, ne)) in omega (arith, now n, none n ne, before))
      ];
      past = λ n le. let later = c.loop-i.invariant.past n (omega (arith, le)) in omega (arith, now n, none n (λ e. omega (arith, e, le)), later);
    }

pub returns : goal.returns
returns c p =
    let xs = c.args.projects.now in
    let i = c.loop-i.i in
    let end : i ≡ length xs = search rules in
    elim (cases_lt p i) [
      | inl lt ↦ c.loop-i.invariant.below p lt
      | inr le ↦ c.loop-i.invariant.past p le ∙ sym (ap (λ z. owner_at z c.args.supervisor) (slice_get_past xs p (omega (arith, le, end))))
    ]
