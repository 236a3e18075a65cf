-- Places of a matching close the open round: the placements that they make are the pairs taken, kept, so what is made of them is
-- what closing makes of the pairs.
use Rattle.office.proofs.closing.Common.{CodePair, taken, Placement, last_round, round_instance, IsFit, MayClose, kept, after_close, Transforms, after_placing, placed_reply, closing_changes, close_changes, PlacesClose, List, map, ◌≡◌, sym, ap, ◌∙◌, subst}
use Rattle.schema.specs.declared.row.Change.{Change}
use Rattle.office.proofs.closing.Kept.{close_keeps_fit}
use Rattle.office.proofs.closing.ClosingRows.{close_transforms}
use Rattle.office.proofs.closing.PairsByCode.{places_taken}
use Rattle.office.proofs.closing.PlacesAreRanks.{within_lists, placed_is_kept}
use Rattle.office.proofs.closing.SizeAndProfile.{kept_is_counted}

pub places_close : PlacesClose
places_close o ks fit opened are placed made =
    let M : List CodePair = taken (round_instance o).students ks in
    let may : MayClose o M = record { is_open = opened; matching = (places_taken (round_instance o) ks are).matching } in
    let all : placed ≡ map (kept o) M = made ∙ placed_is_kept o ks fit (within_lists o ks are) in
    let after : after_placing placed o ≡ after_close M o = ap (λ (ps : List Placement). after_placing ps o) all in
    record {
      may = may;
      fit = subst IsFit (sym after) (close_keeps_fit M o fit may);
      closed = λ done answered changed. record {
        after = after;
        reply = answered ∙ ap (placed_reply (last_round o)) all ∙ kept_is_counted M o;
        changes = subst (λ (cs : List Change). Transforms cs o (after_placing placed o)) (sym (changed ∙ ap (closing_changes (last_round o)) all))
            (subst (Transforms (close_changes M o) o) (sym after) (close_transforms M o fit may));
      };
    }
