-- Laws of rounds that close.
use Rattle.std.specs.Prelude.{◌≡◌, ◌≤◌, ◌^◌, ℕ, IsTrue, List, map, length, Option}
use Rattle.office.specs.closing.Common.{Instance, CodePair, taken, State, last_round, round_is_open, lists_of, round_instance, IsFit, MayClose, kept, after_close, closed_reply, Placement, Transforms, rows_in}
use Rattle.office_model.specs.Answers.{IsClosed}
use Rattle.office_model.specs.declared.request.Done.{Done}
use Rattle.office.specs.changes.Allowed.{AreAllowed}
use Rattle.office.specs.closing.Places.{placed_by, ArePlacesIn, ArePlacesOf, AreTaken}
use Rattle.office.specs.closing.Changes.{after_placing, placed_reply, closing_changes, close_changes}

-- a fit office whose open round closes with a matching is fit
abbrev pub ClosingKeepsFit : Type 0
ClosingKeepsFit = (M : List CodePair) (o : State) → IsFit o → MayClose o M → IsFit (after_close M o)

-- the changes of a round that closes transform the rows of the office before into those after
abbrev pub ClosingTransforms : Type 0
ClosingTransforms = (M : List CodePair) (o : State) → IsFit o → MayClose o M → Transforms (close_changes M o) o (after_close M o)

-- they are allowed over the rows of the office before
abbrev pub ClosingAllowed : Type 0
ClosingAllowed = (M : List CodePair) (o : State) → IsFit o → MayClose o M → AreAllowed (close_changes M o) (rows_in o)

-- and they are few
abbrev pub ClosingFew : Type 0
ClosingFew = (M : List CodePair) (o : State) → IsFit o → MayClose o M → length (close_changes M o) ≤ 2 ^ 20

-- the placements that keep a matching are counted as its pairs are
abbrev pub KeptIsCounted : Type 0
KeptIsCounted = (M : List CodePair) (o : State) → placed_reply (last_round o) (map (kept o) M) ≡ closed_reply M o

-- the pairs that are taken at places of a matching are that matching, by codes
abbrev pub PlacesAreTaken : Type 0
PlacesAreTaken = (l : Instance) (ks : List (Option ℕ)) → (are : ArePlacesOf l ks) → AreTaken are.instance l ks

-- places of a matching of the last round's instance are within the round's lists
abbrev pub PlacesAreInLists : Type 0
PlacesAreInLists = (o : State) (ks : List (Option ℕ)) → ArePlacesOf (round_instance o) ks → ArePlacesIn (lists_of o (last_round o)) ks

-- the placements that places in the lists of the last round make are the pairs taken at them, kept
abbrev pub PlacedIsKept : Type 0
PlacedIsKept = (o : State) (ks : List (Option ℕ)) → IsFit o → ArePlacesIn (lists_of o (last_round o)) ks
    → placed_by (last_round o) (lists_of o (last_round o)) ks ≡ map (kept o) (taken (round_instance o).students ks)

-- places of a matching close the open round: with the placements that they make put, and the round closed, the office is fit,
-- and an answer and changes that are made of these placements are those of closing with the pairs taken
abbrev pub PlacesClose : Type 0
PlacesClose = (o : State) (ks : List (Option ℕ)) → IsFit o → IsTrue (round_is_open o) → ArePlacesOf (round_instance o) ks
    → (placed : List Placement) → placed ≡ placed_by (last_round o) (lists_of o (last_round o)) ks → record {
      may : MayClose o (taken (round_instance o).students ks);
      fit : IsFit (after_placing placed o);
      closed : (done : Done) → done.reply ≡ placed_reply (last_round o) placed → done.changes.items ≡ closing_changes (last_round o) placed
          → IsClosed (taken (round_instance o).students ks) o (after_placing placed o) done;
    }
