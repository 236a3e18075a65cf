-- The rows that an office has in an edition, with tables renamed, and in the first one with the aims of its rounds, are its rows in the
-- latest.
use Rattle.store.proofs.Common.{IsPermutation, AllByRecursion, option_map_or, All-from_recursion, recursion_from_All, IsPermutation-map, All-permutation, IsPermutation-same, all-map, all_unmap, all_weaker, Greedy, Generous, Number, Table, Round, RoundAim, Cells, RowOf, begins, of_table, same_table, AimEntry, AreRowsOf, aim_cells, rows_in, State, aim_key, IsFit, by_table, from_same, to_same, First, Second, Third, AreRowsIn, HaveNoLater, AnEdition, ◌↔◌, migrated_rows, aim_of_round, aims_of, renamed, renamed_row, rows_in_edition, ◌≡◌, false, drop, List, [], ◌∷◌, ◌++◌, map, Option, Some, None, refl, sym, ap, ◌∙◌, append-nil}
use Rattle.spa.specs.declared.aim.Aim.{Aim}
use Rattle.office_model.specs.Roll.{find}
use Rattle.office_model.proofs.Found.{holds_of_found}
use Rattle.store.proofs.OtherNames.{rows_both, renamed_twice, swapped, aims_come, no_others, greedy_rows, first_else}

-- ---- the second edition

-- rows whose tables are renamed are those of the office
swaps : (rows : List RowOf) (o : State) → AreRowsIn Second rows o → AreRowsOf (map renamed_row rows) o
swaps rows o are t =
    from_same (swapped rows t)
    (to_same (are.same (renamed t)) (ap (rows_in o) (renamed_twice t)))

-- and the other way round
swaps_back : (rows : List RowOf) (o : State) → AreRowsOf (map renamed_row rows) o → AreRowsIn Second rows o
swaps_back rows o of = record {
  same = λ t. from_same (ap (of_table rows) (sym (renamed_twice t)) ∙ sym (swapped rows (renamed t))) (of (renamed t));
  allowed = tt;
}

-- ---- the first one

-- a row of an aim that is not the generous one
abbrev IsGreedy : Cells → Type 0
IsGreedy cells = begins (Number 1 ∷ []) (drop 1 cells) ≡ false

-- the aim that a round's row comes with is
made_greedy : (cells : Cells) → IsGreedy (aim_of_round cells)
made_greedy [] = refl
made_greedy (c ∷ cells) = refl

-- and an aim whose row is, is greedy
greedy_aim : (a : AimEntry) → IsGreedy (aim_cells a) → a.aim ≡ Greedy
greedy_aim a = by a.aim
  where
    by : (aim : Aim) → IsGreedy (aim_cells (record { round = a.round; aim = aim })) → aim ≡ Greedy
    by Greedy h = refl
    by Generous h = cc

module _ (rows : List RowOf) (o : State) (none : HaveNoLater First rows) (fit : IsFit o) where
  -- the rows with the aims that they come with
  abbrev all : List RowOf
  all = rows ++ aims_of rows

  -- in other tables there are the rows themselves
  elsewhere : (t : Table) → same_table t RoundAim ≡ false → of_table all t ≡ of_table rows t
  elsewhere t other = rows_both t rows (aims_of rows) ∙ ap (λ cells. of_table rows t ++ cells) (no_others rows t other) ∙ append-nil _

  -- and in theirs the aims alone
  here : of_table all RoundAim ≡ map aim_of_round (of_table rows Round)
  here = rows_both RoundAim rows (aims_of rows) ∙ ap (λ cells. cells ++ of_table (aims_of rows) RoundAim) none ∙ aims_come rows

  -- with the aims they are rows of the second edition
  with_aims : AreRowsIn First rows o → AreRowsIn Second all o
  with_aims are = record {
    same = by_table (λ t. IsPermutation (of_table all t) (rows_in_edition Second o t)) RoundAim
        (from_same here (to_same (IsPermutation-map aim_of_round _ _ (are.same Round)) (greedy_rows o fit are.allowed)))
        (λ t other. from_same (elsewhere t other) (to_same (are.same t) (first_else o t other)));
    allowed = tt;
  }

  -- where they are such rows all rounds are greedy
  all_greedy : AreRowsIn Second all o → AllByRecursion (λ (a : AimEntry). a.aim ≡ Greedy) o.aims
  all_greedy are =
      all_weaker (λ a. IsGreedy (aim_cells a)) (λ (a : AimEntry). a.aim ≡ Greedy) greedy_aim o.aims
      (all_unmap IsGreedy aim_cells o.aims (recursion_from_All IsGreedy _ (All-permutation IsGreedy _ _
      (from_same (sym here) (are.same RoundAim)) (All-from_recursion IsGreedy _ (all-map IsGreedy aim_of_round made_greedy (of_table rows Round))))))

  -- and without the aims they are rows of the first
  without_aims : AreRowsIn Second all o → AreRowsIn First rows o
  without_aims are = record {
    same = by_table (λ t. IsPermutation (of_table rows t) (rows_in_edition First o t)) RoundAim (IsPermutation-same _ _ none)
        (λ t other. from_same (sym (elsewhere t other)) (to_same (are.same t) (sym (first_else o t other))));
    allowed = λ n. greedy (find aim_key (n, []) o.aims) (λ a is. holds_of_found aim_key (λ (a : AimEntry). a.aim ≡ Greedy) (n, []) o.aims a (all_greedy are) is);
  }
    where
      greedy : (x : Option AimEntry) → ((a : AimEntry) → x ≡ Some a → a.aim ≡ Greedy) → option_map_or (λ (a : AimEntry). a.aim) x Greedy ≡ Greedy
      greedy None each = refl
      greedy (Some a) each = each a refl

-- rows that have none of a later edition are those of a fit office in theirs exactly where what they are in the latest is its rows
pub rows_migrate : (e : AnEdition) (rows : List RowOf) (o : State) → HaveNoLater e rows → IsFit o → AreRowsIn e rows o ↔ AreRowsOf (migrated_rows e rows) o
rows_migrate First rows o none fit = (
  λ are. swaps (rows ++ aims_of rows) o (with_aims rows o none fit are),
  λ of. without_aims rows o none fit (swaps_back (rows ++ aims_of rows) o of),
)
rows_migrate Second rows o none fit = (swaps rows o, swaps_back rows o)
rows_migrate Third rows o none fit = (λ are. are.same, λ of. record { same = of; allowed = tt })
