-- The next round opens, or the last one opens again or closes: its row comes or is put in its place, its lists keep their rows, and
-- placements go.
use Rattle.office.proofs.changes.Common.{flat_map, IsPermutation, ◌&&◌, ◌==◌, option_map_or, nat_tests, IsPermutation-refl, IsPermutation-sym, IsPermutation-trans, IsPermutation-same, IsPermutation-flat_map, filter-map, filter_same, Aim, Round, RoundAim, Choice, Placement, Put, Add, Remove, Change, TransformsRows, RoundEntry, AimEntry, PlacementEntry, find, put, take_out, State, round_key, aim_key, last_round, round_of, IsFit, with_last, after_opening, after_reopening, round_row, placed_part, opening_changes, reopening_changes, aim_cells, round_cells, placement_cells, rows_of_round, rows_in, Transforms, aimed_found, no_round_above, some_round, round_number, rounds_rise, fit_shaped, ◌≡◌, ℕ, ◌+◌, ◌≤◌, Bool, true, false, not, List, [], ◌∷◌, map, Option, Some, is_some, refl, sym, ap, subst, ◌∙◌, arith}
use Rattle.office.proofs.changes.KeyTests.{and_true, number_test}
use Rattle.office.proofs.changes.Keyed.{put_beside, found_beside, added_beside}
use Rattle.office.proofs.changes.Changes.{SameElsewhere, one_transforms, transforms_follow}
use Rattle.office.proofs.changes.OneRow.{entry_put, entry_added}
use Rattle.office.proofs.changes.Same.{from_same}

-- ---- the last round

-- the office with another in the place of its last round
pub put_last : (f : RoundEntry → RoundEntry) (o : State) (r : RoundEntry) → round_of o (last_round o) ≡ Some r → with_last f o ≡ record o { rounds = put round_key (f r) o.rounds }
put_last f o r is = ap (λ (x : Option RoundEntry). record o { rounds = option_map_or (λ r. put round_key (f r) o.rounds) x o.rounds }) is

module _ (o : State) (fit : IsFit o) (r new : RoundEntry) (is : round_of o (last_round o) ≡ Some r) (kept : new.number ≡ r.number) where
  -- the old one has its number
  pub number : r.number ≡ last_round o
  number = round_number o fit.numbered (last_round o) r is

  -- the old one and the new stand next to the other rounds
  pub old_beside : IsPermutation (r ∷ take_out round_key (last_round o, []) o.rounds) o.rounds
  old_beside = found_beside round_key (last_round o, []) r o.rounds (rounds_rise o fit.numbered) is

  pub new_beside : IsPermutation (new ∷ take_out round_key (last_round o, []) o.rounds) (put round_key new o.rounds)
  new_beside = subst (λ m. IsPermutation (new ∷ take_out round_key (m, []) o.rounds) (put round_key new o.rounds)) (kept ∙ number) (put_beside round_key new o.rounds (rounds_rise o fit.numbered))

  -- what hangs on the rounds in no order, and is the same of both, stays
  pub same_rows : {X : Type 0} (f : List RoundEntry → List X) → ((rs ss : List RoundEntry) → IsPermutation rs ss → IsPermutation (f rs) (f ss))
      → f (r ∷ take_out round_key (last_round o, []) o.rounds) ≡ f (new ∷ take_out round_key (last_round o, []) o.rounds) → IsPermutation (f o.rounds) (f (put round_key new o.rounds))
  same_rows f in_any same =
      IsPermutation-trans _ _ _ (IsPermutation-sym _ _ (in_any _ _ old_beside))
      (from_same same (in_any _ _ new_beside))

-- the row of the last round is put
pub round_transforms : (o : State) → IsFit o → 1 ≤ last_round o → (now : Bool)
    → TransformsRows (Put (round_row (last_round o) now) ∷ []) (rows_in o) (rows_in (with_last (λ r. record r { is_open = now }) o))
round_transforms o fit some now = (let it = some_round o fit.numbered (last_round o) some (omega arith) in turned it.0 it.1)
  where
    turned : (r : RoundEntry) → round_of o (last_round o) ≡ Some r
        → TransformsRows (Put (round_row (last_round o) now) ∷ []) (rows_in o) (rows_in (with_last (λ r. record r { is_open = now }) o))
    turned r is =
        subst (λ (s : State). TransformsRows (Put (round_row (last_round o) now) ∷ []) (rows_in o) (rows_in s)) (sym (put_last (λ r. record r { is_open = now }) o r is))
        (subst (λ m. TransformsRows (Put (round_row m now) ∷ []) (rows_in o) (rows_in (record o { rounds = put round_key (record r { is_open = now }) o.rounds }))) (number o fit r (record r { is_open = now }) is refl)
        (entry_put round_key round_cells Round (λ e x. number_test e.number x.number) (record r { is_open = now }) o.rounds (rows_in o) (rows_in (record o { rounds = put round_key (record r { is_open = now }) o.rounds }))
        (rounds_rise o fit.numbered) refl refl others (subst (λ m. is_some (round_of o m) ≡ true) (sym (number o fit r (record r { is_open = now }) is refl)) (ap is_some is))))
      where
        others : SameElsewhere Round (rows_in o) (rows_in (record o { rounds = put round_key (record r { is_open = now }) o.rounds }))
        others Round h = cc
        others Choice h = same_rows o fit r (record r { is_open = now }) is refl (flat_map rows_of_round) (IsPermutation-flat_map rows_of_round) refl
        others _ h = IsPermutation-refl _

-- ---- an opening again

-- a test of numbers, reversed
transformed_test : (n m : ℕ) → ((n == m) && true) ≡ (m == n)
transformed_test n m = and_true (n == m) ∙ grind (arith, nat_tests)

-- the round's row is put, and then its placements go
pub transforms_reopened : (o : State) → IsFit o → 1 ≤ last_round o → Transforms (reopening_changes (last_round o)) o (after_reopening o)
transforms_reopened o fit some =
    transforms_follow (Put _ ∷ []) (left_out ∷ []) (rows_in o) (rows_in (with_last (λ r. record r { is_open = true }) o)) (rows_in (after_reopening o)) (round_transforms o fit some true)
    (one_transforms left_out (rows_in (with_last (λ r. record r { is_open = true }) o)) (rows_in (after_reopening o)) tt
    (IsPermutation-same _ _ (filter-map _ placement_cells o.placements ∙ ap (map placement_cells) (filter_same _ _ (λ (p : PlacementEntry). ap not (transformed_test (last_round o) p.round)) o.placements))) others)
  where
    left_out : Change
    left_out = Remove (placed_part (last_round o))

    others : SameElsewhere Placement (rows_in (with_last (λ r. record r { is_open = true }) o)) (rows_in (after_reopening o))
    others Placement h = cc
    others _ h = IsPermutation-refl _

-- ---- the next round

-- the round's row is added, and then that of its aim
pub transforms_opened : (aim : Aim) (o : State) → IsFit o → Transforms (opening_changes (last_round o + 1) aim) o (after_opening aim o)
transforms_opened aim o fit =
    transforms_follow (Add _ ∷ []) (Add _ ∷ []) (rows_in o) (rows_in (record o { rounds = put round_key next o.rounds })) (rows_in (after_opening aim o))
    (entry_added round_key round_cells Round (λ e x. number_test e.number x.number) next o.rounds (rows_in o) (rows_in (record o { rounds = put round_key next o.rounds })) (rounds_rise o fit.numbered) refl refl others no_round)
    (entry_added aim_key aim_cells RoundAim (λ e x. number_test e.round x.round) next_aim o.aims (rows_in (record o { rounds = put round_key next o.rounds })) (rows_in (after_opening aim o)) (fit_shaped o fit).aims_rise refl refl beside no_aim)
  where
    next : RoundEntry
    next = record { number = last_round o + 1; is_open = true; lists = [] }

    next_aim : AimEntry
    next_aim = record { round = last_round o + 1; aim = aim }

    no_round : is_some (round_of o (last_round o + 1)) ≡ false
    no_round = ap is_some (no_round_above o fit.numbered (last_round o + 1) (omega arith))

    no_aim : is_some (find aim_key (last_round o + 1, []) o.aims) ≡ false
    no_aim = aimed_found (last_round o + 1) o.aims o.rounds fit.aimed ∙ no_round

    -- it has no lists
    others : SameElsewhere Round (rows_in o) (rows_in (record o { rounds = put round_key next o.rounds }))
    others Round h = cc
    others Choice h = IsPermutation-flat_map rows_of_round _ _ (added_beside round_key next o.rounds (rounds_rise o fit.numbered) no_round)
    others _ h = IsPermutation-refl _

    beside : SameElsewhere RoundAim (rows_in (record o { rounds = put round_key next o.rounds })) (rows_in (after_opening aim o))
    beside RoundAim h = cc
    beside _ h = IsPermutation-refl _
