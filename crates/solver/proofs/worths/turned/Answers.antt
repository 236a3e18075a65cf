use Rattle.std.proofs.Common.{◌≡◌, ◌≤◌, ◌-◌, ◌∙◌, ℕ, ℤ, List, length, length-set, ap, sym, arith, unsigned_abs}
use Rattle.solver.proofs.Common.{neg_ℤ, ints, at, as_read, Places, places_of, row, lex_ops, IsLexicographic, COMPONENTS, Generous}
use Rattle.spa.proofs.Rows.{filled_more}
use Rattle.spa.proofs.GenerousRows.{read_from}
use Rattle.spa.proofs.LexOrder.{lexicographic}
use Rattle.solver.proofs.worths.turned.Goals as goal

-- the numbers of a worth are those of its row
number_at : IsLexicographic COMPONENTS → (xs : List ℤ) (x : Places COMPONENTS) → length xs ≡ COMPONENTS → places_of COMPONENTS (at xs) ≡ x → (t : ℕ) → row COMPONENTS x t ≡ at xs t
number_at law xs x h is t = ap (λ y. row COMPONENTS y t) (sym is) ∙ law.of_array xs h t

-- and within its span
small_at : IsLexicographic COMPONENTS → (xs : List ℤ) (x : Places COMPONENTS) → length xs ≡ COMPONENTS → places_of COMPONENTS (at xs) ≡ x → (t : ℕ) → unsigned_abs (at xs t) ≤ (lex_ops COMPONENTS).span x
small_at law xs x h is t = let w = law.within_span x t in let e = ap unsigned_abs (number_at law xs x h is t) in omega (arith, w, e)

pub overflow_sub-numbers-in-loop-k : goal.overflow_sub-numbers-in-loop-k
overflow_sub-numbers-in-loop-k c =
    let s = small_at lexicographic c.worth.inside.0 c.args.worth.now c.worth.invariant c.worth.view_is (COMPONENTS - c.loop-k.k) in
    omega (arith, ints, s, c.requires)

pub loop-k-preserved : goal.loop-k-preserved
loop-k-preserved c =
    let k : ℕ = c.loop-k.k in
    let x : Places COMPONENTS = c.args.worth.now in
    let s = small_at lexicographic c.worth.inside.0 x c.worth.invariant c.worth.view_is (COMPONENTS - k) in
    let here : as_read Generous (row COMPONENTS x) k ≡ neg_ℤ (at c.worth.inside.0 (COMPONENTS - k)) = read_from (row COMPONENTS x) k (omega arith) (omega arith) ∙ ap neg_ℤ (number_at lexicographic c.worth.inside.0 x c.worth.invariant c.worth.view_is (COMPONENTS - k)) in
    let w = c.loop-k.invariant.whole in
    record {
      whole = length-set _ _ _ ∙ w;
      so_far = filled_more c.loop-k.numbers (as_read Generous (row COMPONENTS x)) k _ (omega arith) c.loop-k.invariant.so_far (omega (arith, ints, s, here, c.requires));
    }
