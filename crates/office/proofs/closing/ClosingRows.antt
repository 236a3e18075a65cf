-- A round that closes: its row is put, and the rows of placements come, of students who have none.
use Rattle.office.proofs.closing.Common.{IsPermutation, map-append, PlacementEntry, put_all, placement_cells, rows_in, State, placement_key, last_round, with_last, kept, after_close, open_within, all_beside, placement_added, ClosingTransforms, false, List, [], ◌∷◌, ◌++◌, map, sym, subst, IsPermutation-refl, IsPermutation-map, Put, TransformsRows, round_transforms}
use Rattle.sqlite_keyed.proofs.ListLemmas.{map-map}
use Rattle.schema.specs.declared.table.Table.TheVariants.{Placement}
use Rattle.office.proofs.changes.Changes.{SameElsewhere, add, added_transforms, transforms_follow}
use Rattle.office.proofs.changes.KeyTests.{code_test}
use Rattle.office.proofs.changes.OneRow.{rows_free}
use Rattle.office.proofs.changes.Same.{from_same}
use Rattle.office.proofs.closing.Unplaced.{pairs_new}

pub close_transforms : ClosingTransforms
close_transforms M o fit may =
    transforms_follow (Put _ ∷ []) (map placement_added placed) (rows_in o) (rows_in closed) (rows_in (after_close M o)) (round_transforms o fit (open_within o fit.numbered (last_round o) may.is_open).positive false)
    (subst (λ cs. TransformsRows cs (rows_in closed) (rows_in (after_close M o))) (map-map (add Placement) placement_cells placed)
    (added_transforms Placement (map placement_cells placed) (rows_in closed) (rows_in (after_close M o))
    (rows_free placement_key placement_cells Placement (λ e x. code_test e.student x.student) placed o.placements (pairs_new M o fit may)) here others))
  where
    placed : List PlacementEntry
    placed = map (kept o) M

    closed : State
    closed = with_last (λ r. record r { is_open = false }) o

    here : IsPermutation (map placement_cells placed ++ map placement_cells o.placements) (map placement_cells (put_all placement_key placed o.placements))
    here =
        from_same (sym (map-append placement_cells placed o.placements))
        (IsPermutation-map placement_cells _ _ (all_beside placement_key placed o.placements fit.placements_rise (pairs_new M o fit may)))

    others : SameElsewhere Placement (rows_in closed) (rows_in (after_close M o))
    others Placement h = cc
    others _ h = IsPermutation-refl _
