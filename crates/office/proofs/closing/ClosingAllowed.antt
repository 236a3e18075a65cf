-- The changes of closing are allowed over the rows of the office before, and few: the placements fit the office after it, which differs
-- from the rows when theirs come only in placements.
use Rattle.std.proofs.Common.{length-append}
use Rattle.office.proofs.closing.Common.{AllByRecursion, length-map, PlacementEntry, State, placement_key, last_round, with_last, IsFit, PlacementFits, placement_cells, rows_in, kept, after_close, open_within, all_beside, all_weaker, few_placed, placement_added, ◌-◌, false, List, [], ◌∷◌, map, refl, arith, length_permutation, Put, after_change, round_transforms, ClosingAllowed, ClosingFew}
use Rattle.schema.specs.declared.table.Table.TheVariants.{Placement}
use Rattle.schema.specs.Rows.{AllRows}
use Rattle.office.specs.changes.Allowed.{IsWithin, IsShort, AreAllowed}
use Rattle.office.proofs.changes.Allowed.{allowed_follow}
use Rattle.office.proofs.changes.OnRolls.{known_project, known_round, known_student, listed, project_code, student_code}
use Rattle.office.proofs.changes.PlainAllowed.{round_allowed, short_code}
use Rattle.office.proofs.closing.Kept.{close_keeps_fit, kept_fit}
use Rattle.office.proofs.closing.Unplaced.{pairs_new}

-- a placement's row is one that the table takes
abbrev IsTaken : AllRows → PlacementEntry → Type 0
IsTaken rows p = IsWithin rows Placement (placement_cells p) × AllByRecursion IsShort (placement_cells p)

-- as one that fits in a fit office is
fit_taken : (o : State) → IsFit o → (p : PlacementEntry) → PlacementFits o p → IsTaken (rows_in o) p
fit_taken o fit p fits =
    let there = listed o fit.lists_fit p.round p.student (p.rank - 1) p.project fits.listed in (
      (
        p.student,
        p.round,
        p.project,
        p.rank,
        refl,
        fits.rank,
        omega (arith, fits.rank, there.few),
        known_student o p.student there.student,
        known_round o p.round there.round,
        known_project o p.project there.project,
      ),
      (short_code p.student (student_code o fit p.student there.student), (tt, (short_code p.project (project_code o fit p.project there.project), (tt, tt)))),
    )

-- rows of placements come one after another
placed_allowed : (rows : AllRows) (ps : List PlacementEntry) → AllByRecursion (IsTaken rows) ps → AreAllowed (map placement_added ps) rows
placed_allowed rows [] all = tt
placed_allowed rows (p ∷ ps) all = (record { within = all.0.0; short = all.0.1 }, placed_allowed (after_change (placement_added p) rows) ps all.1)

pub close_allowed : ClosingAllowed
close_allowed M o fit may =
    let closed : State = with_last (λ r. record r { is_open = false }) o in
    allowed_follow (Put _ ∷ []) (map placement_added (map (kept o) M)) (rows_in o) (rows_in closed) (round_allowed o fit false, tt)
    (round_transforms o fit (open_within o fit.numbered (last_round o) may.is_open).positive false).rows
    (placed_allowed (rows_in closed) (map (kept o) M)
    (all_weaker (PlacementFits (after_close M o)) (IsTaken (rows_in closed)) (fit_taken (after_close M o) (close_keeps_fit M o fit may)) (map (kept o) M) (kept_fit M o fit may)))

pub close_few : ClosingFew
close_few M o fit may =
    let placed : List PlacementEntry = map (kept o) M in
    omega (
      arith,
      length-map placed placement_added,
      length-append placed o.placements,
      fit.students.few,
      few_placed (after_close M o) (close_keeps_fit M o fit may),
      length_permutation _ _ (all_beside placement_key placed o.placements fit.placements_rise (pairs_new M o fit may)),
    )
